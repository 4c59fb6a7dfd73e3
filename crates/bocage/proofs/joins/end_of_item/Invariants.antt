use Rattle.std.proofs.Common.{◌≡◌, ℕ, ◌<◌, ◌≤◌, Some, slice_get}
use Rattle.bocage.specs.declared.joins.Join.{Join}
use Rattle.bocage.specs.Joins.{predecessor_of_join}
use Rattle.bocage.proofs.joins.end_of_item.Given as goal

abbrev pub invariant-loop-past : goal.invariant-loop-past
invariant-loop-past l = (k : ℕ) (j : Join) → l.first ≤ k → k < l.past → slice_get l.joins k ≡ Some j → predecessor_of_join j ≡ l.predecessor
