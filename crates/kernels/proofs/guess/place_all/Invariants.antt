use Rattle.std.proofs.Common.{◌%◌, ◌<◌, ℕ}
use Rattle.std.specs.Prelude.{slice_index_or}
use Rattle.kernels.specs.Slots.{IsPlaced}
use Rattle.kernels.proofs.guess.place_all.Given as goal

abbrev pub invariant-loop-k : goal.invariant-loop-k
invariant-loop-k l = record {
  placed : (i : ℕ) → i < l.k → IsPlaced l.origins.items (slice_index_or l.slotted i 0) (slice_index_or l.packed i 0);
  small : (i : ℕ) → i < l.k → slice_index_or l.packed i 0 % 4294967296 < 4294967295;
}
