use Rattle.std.proofs.Common.{◌↔◌, ◌++◌, ℕ, List, Contains, subst, ap, ◌∙◌}
use Rattle.std.specs.Result.{OnOk}
use Rattle.slot_analysis.proofs.levels.put_sorted.Goals as goal

pub returns-clause-same : goal.returns-clause-same
returns-clause-same c =
    subst (λ (row : List ℕ). OnOk c.sort.result ((l : ℕ) → Contains c.sort.new.levels.items l ↔ Contains row l))
    (c.in_ok-extend_from_slice.ensures.items ∙ ap (λ (xs : List ℕ). xs ++ c.args.row.now) c.clear.ensures.items) c.sort.ensures.same
