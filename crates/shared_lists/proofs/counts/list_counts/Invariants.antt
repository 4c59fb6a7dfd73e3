use Rattle.std.proofs.Common.{◌≡◌, ◌<◌, ◌≤◌, ℕ, length}
use Rattle.std.specs.Prelude.{slice_index}
use Rattle.shared_lists.specs.Counted.{AreCounts}
use Rattle.shared_lists.proofs.counts.list_counts.Given as goal

abbrev pub invariant-loop-bound : goal.invariant-loop-bound
invariant-loop-bound l = record {
  within : l.start ≤ length l.list;
  below : (k : ℕ) → k < l.start → slice_index l.list k < l.bound;
  counts : AreCounts l.list l.counts.items;
  long : length l.counts.items ≡ l.bound;
}
