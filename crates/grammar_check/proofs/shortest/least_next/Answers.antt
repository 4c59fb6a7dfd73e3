use Rattle.std.proofs.Common.{arith, ◌≡◌, inl, inr, subst, sym, ap, ◌∙◌, slice_index, get_or, true≢false}
use Rattle.grammar_check.proofs.Choosing.{Chosen, chosen_more, chosen_next}
use Rattle.grammar_check.proofs.shortest.least_next.Goals as goal
use Rattle.grammar_check.proofs.shortest.least_next.Goals.{then-t-best+then-has_step, else-t-best, else-t-best-via-then-t-best+else-has_step, else-t-best-via-else-t-best}

pub loop-j-preserved : goal.loop-j-preserved
loop-j-preserved c =
    let t = get_or c.as_slice.result.now c.loop-j.j 0 in
    let is : slice_index c.args.found.now c.loop-j.j ≡ t = ap (λ l. get_or l c.loop-j.j 0) (sym c.as_slice.ensures) in
    chosen_more c.args.rows.now c.args.floors.now c.args.found.now c.args.from c.args.x c.loop-j.j t c.loop-j.best c.if-t-best.best c.loop-j.auto.j is c.loop-j.invariant
    (elim c.if-t-best.branch [
      | then-t-best+then-has_step w ↦ inl (w.best-is, w.if-t-best.true, w.has_step.ensures.0 w.if-has_step.true)
      | else-t-best w ↦ inr (
        w.best-is,
        λ s. elim w.else-t-best.branch [
          | else-t-best-via-then-t-best+else-has_step v ↦ absurd (true≢false (sym (v.has_step.ensures.1 s) ∙ v.if-has_step.false))
          | else-t-best-via-else-t-best v ↦ omega (arith, v.if-t-best.false)
        ],
      )
    ])

pub returns : goal.returns
returns c =
    let (j, a, b, s) = c.requires.some in
    let e : c.loop-j.j ≡ c.args.to = omega (arith, a, b, c.loop-j.auto.j-end, c.loop-j-test.false) in
    chosen_next c.args.rows.now c.args.floors.now c.args.found.now c.args.from c.args.x c.args.to c.loop-j.best
    (λ i lt. let h = c.requires.known i 0 (omega (arith, lt, c.requires.within)) in omega (arith, h, c.requires.few)) c.requires.some
    (subst (λ n. Chosen c.args.rows.now c.args.floors.now c.args.found.now c.args.from n c.args.x c.loop-j.best) e c.loop-j.invariant)
