use Rattle.std.specs.List.Sorted.{IsNonDecreasing}
use Rattle.std.proofs.lemmas.List.Sorted.{non_decreasing_from_is_sorted}
use Rattle.threads.proofs.Searching.{of_true}
use Rattle.threads.proofs.terminals.terminals_of.Goals as goal

pub invariant_of-result : goal.invariant_of-result
invariant_of-result c = of_true c.is_sorted.result (IsNonDecreasing c.args.list.now) _ (non_decreasing_from_is_sorted c.args.list.now c.is_sorted.result c.is_sorted.ensures.cases)
