use Rattle.std.proofs.Common.{◌≡◌, ◌%◌, ◌<◌, ℕ, length, take, Contains}
use Rattle.kernels.specs.Slots.{placed_all}
use Rattle.kernels.proofs.slots.list_slotted.Given as goal

abbrev pub invariant-loop-n : goal.invariant-loop-n
invariant-loop-n l = record {
  packed : placed_all l.origins l.slotted.items ≡ take l.n-index l.packed;
  slots : (n : ℕ) → Contains l.slotted.items n → n % 4294967296 < length l.origins;
}
