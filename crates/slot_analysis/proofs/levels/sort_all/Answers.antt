use Rattle.std.proofs.Common.{arith, ◌≡◌, ◌↔◌, ◌+◌, ◌++◌, ◌∷◌, [], ℕ, ◌<◌, List, Contains, length, length-append, sym, ◌∙◌, ap, subst}
use Rattle.jagged.specs.Rows.{row_at}
use Rattle.horn_clauses.proofs.RowLemmas.{each_more}
use Rattle.slot_analysis.proofs.LevelRows.{IsSortedFrom, all_sorted}
use Rattle.slot_analysis.proofs.levels.sort_all.Goals as goal

pub loop-s-preserved : goal.loop-s-preserved
loop-s-preserved c =
    let row = c.put_sorted.new.levels.items in
    let grown = c.in_ok-push.ensures.ok ∙ ap (λ (l : List ℕ). c.loop-s.sorted ++ l ∷ []) c.deref.ensures.value in
    let long = ap length grown ∙ length-append c.loop-s.sorted (row ∷ []) in
    let here : IsSortedFrom c.args.rows.now c.loop-s.s row = (c.in_ok-put_sorted.ensures.sorted, subst (λ l. (n : ℕ) → Contains row n ↔ Contains l n) c.row.ensures c.in_ok-put_sorted.ensures.same) in (
      omega (arith, long, c.loop-s.invariant.0),
      subst (λ (rows : List (List ℕ)). (j : ℕ) → j < c.loop-s.s + 1 → IsSortedFrom c.args.rows.now j (row_at rows j)) (sym grown)
          (each_more (IsSortedFrom c.args.rows.now) c.loop-s.sorted row c.loop-s.s c.loop-s.invariant.0 c.loop-s.invariant.1 here),
    )

pub returns-clause-same : goal.returns-clause-same
returns-clause-same c =
    let long : length c.loop-s.sorted ≡ length c.args.rows.now = omega (arith, c.loop-s.invariant.0, c.loop-s-test.false, c.loop-s.auto.s-end, c.len-s-end.ensures) in
    record {
      same_length = long;
      same = λ x n. (all_sorted c.args.rows.now c.loop-s.sorted long (λ j lt. c.loop-s.invariant.1 j (omega (arith, lt, c.loop-s.invariant.0, long))) x).1 n;
    }

pub returns-clause-sorted : goal.returns-clause-sorted
returns-clause-sorted c = λ s.
    let long : length c.loop-s.sorted ≡ length c.args.rows.now = omega (arith, c.loop-s.invariant.0, c.loop-s-test.false, c.loop-s.auto.s-end, c.len-s-end.ensures) in
    (all_sorted c.args.rows.now c.loop-s.sorted long (λ j lt. c.loop-s.invariant.1 j (omega (arith, lt, c.loop-s.invariant.0, long))) s).0
