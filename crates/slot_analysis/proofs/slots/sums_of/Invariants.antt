use Rattle.std.proofs.Common.{◌≡◌, ℕ, suc, ◌+◌, ◌<◌, length, slice_index}
use Rattle.slot_analysis.proofs.slots.sums_of.Given as goal

abbrev pub invariant-loop-room : goal.invariant-loop-room
invariant-loop-room l = (length l.sums.items ≡ suc l.room-index) × (slice_index l.sums.items l.room-index ≡ l.sum) × (slice_index l.sums.items 0 ≡ 0)
    × ((s : ℕ) → s < l.room-index → slice_index l.sums.items (suc s) ≡ slice_index l.sums.items s + slice_index l.rooms s)
