use Rattle.std.proofs.Common.{arith, inl, inr, false, sym, ◌∙◌, subst, true≢false}
use Rattle.std.proofs.lemmas.List.{get_or_default}
use Rattle.grammar_model.specs.Checked.{IsShared}
use Rattle.horn_clauses.proofs.Search.{same_or_below}
use Rattle.grammar_check.proofs.Sharing.{shared_from, shared_to, all_alone}
use Rattle.grammar_check.proofs.shared.shared_sequence.Goals as goal
use Rattle.grammar_check.proofs.shared.shared_sequence.Goals.{else-index-via-then-index+else-index-2, else-index-via-else-index}

pub returns-then-index-2-clause-some : goal.returns-then-index-2-clause-some
returns-then-index-2-clause-some c =
    let lt = c.loop-s-test.true in
    let two = sym (c.index.ensures ∙ get_or_default c.in_ok-twice.twice.items c.loop-s.s c.index.result.now false (omega (arith, lt, c.symbol_count-s-end.ensures.count, c.in_ok-twice.ensures.length))) ∙ c.if-index.true in
    let seq = sym (c.index-then-index.ensures ∙ get_or_default c.in_ok-sequences.sequences.items c.loop-s.s c.index-then-index.result.now false (omega (arith, lt, c.symbol_count-s-end.ensures.count, c.in_ok-sequences.ensures.length))) ∙ c.if-index-2.true in
    (shared_from c.args.w.now c.loop-s.s ((c.in_ok-twice.ensures.marks c.loop-s.s).0 two) ((c.in_ok-sequences.ensures.marks c.loop-s.s).0 seq), c.loop-s.invariant)

pub loop-s-preserved : goal.loop-s-preserved
loop-s-preserved c = λ t lt shared. elim (same_or_below t c.loop-s.s lt) [
  | inl low ↦ c.loop-s.invariant t low shared
  | inr same ↦
      let small = c.loop-s-test.true in
      let both = shared_to c.args.w.now c.loop-s.s (subst (IsShared c.args.w.now) same shared) in
      let two = c.index.ensures ∙ get_or_default c.in_ok-twice.twice.items c.loop-s.s c.index.result.now false (omega (arith, small, c.symbol_count-s-end.ensures.count, c.in_ok-twice.ensures.length)) ∙ (c.in_ok-twice.ensures.marks c.loop-s.s).1 both.0 in
      elim c.else-index.branch [
        | else-index-via-then-index+else-index-2 w ↦
            let seq = w.index-then-index.ensures ∙ get_or_default c.in_ok-sequences.sequences.items c.loop-s.s w.index-then-index.result.now false (omega (arith, small, c.symbol_count-s-end.ensures.count, c.in_ok-sequences.ensures.length)) ∙ (c.in_ok-sequences.ensures.marks c.loop-s.s).1 both.1 in
            true≢false (sym seq ∙ w.if-index-2.false)
        | else-index-via-else-index w ↦ true≢false (sym two ∙ w.if-index.false)
      ]
]

pub returns-clause-none : goal.returns-clause-none
returns-clause-none c = λ _. all_alone c.args.w.now c.symbol_count-s-end.ensures.sound (λ s lt. c.loop-s.invariant s (omega (arith, lt, c.loop-s-test.false, c.symbol_count-s-end.ensures.count)))
