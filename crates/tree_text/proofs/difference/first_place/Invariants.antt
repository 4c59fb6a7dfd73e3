use Rattle.std.proofs.Common.{◌≡◌, ◌≤◌, ◌<◌, ℕ, ◌-◌, length}
use Rattle.tree_text.specs.Differences.{look_at}
use Rattle.tree_text.proofs.difference.first_place.Given as goal

abbrev pub invariant-loop-count : goal.invariant-loop-count
invariant-loop-count l = record {
  in_one : l.count ≤ length l.fn.one;
  in_other : l.count ≤ length l.fn.other;
  before : (i : ℕ) → i < l.count → look_at l.fn.one i ≡ look_at l.fn.other i;
}

abbrev pub decreases-loop-count : goal.decreases-loop-count
decreases-loop-count l = length l.fn.one - l.count
