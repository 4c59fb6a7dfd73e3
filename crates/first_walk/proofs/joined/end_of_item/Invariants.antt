use Rattle.std.proofs.Common.{◌≡◌, ℕ, ◌<◌, ◌≤◌, Some, slice_get}
use Rattle.first_walk.specs.declared.joined.Joined.{Joined}
use Rattle.first_walk.specs.Joined.{item_of_joined}
use Rattle.first_walk.proofs.joined.end_of_item.Given as goal

abbrev pub invariant-loop-past : goal.invariant-loop-past
invariant-loop-past l = (k : ℕ) (j : Joined) → l.first ≤ k → k < l.past → slice_get l.joined k ≡ Some j → item_of_joined j ≡ l.item
