use Rattle.std.proofs.Common.{◌≡◌, ◌<◌, ℕ, length, slice_index, slice_index_or}
use Rattle.slot_analysis.specs.Slots.{number, IsNumbered}
use Rattle.grammar_check.specs.Told.{slot_with}
use Rattle.grammar_check.proofs.table.slots_at.Given as goal

abbrev pub invariant-loop-x : goal.invariant-loop-x
invariant-loop-x l = record {
  sized : length l.slots.items ≡ l.x-index;
  numbered : (i : ℕ) → i < l.x-index → IsNumbered l.w l.bases (slot_with (slice_index_or l.slots.items i (0, 0)));
  same : (i : ℕ) → i < l.x-index → number l.bases (slot_with (slice_index_or l.slots.items i (0, 0))) ≡ slice_index l.path i;
}
