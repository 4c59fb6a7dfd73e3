use Rattle.std.proofs.Common.{◌≡◌, ◌<◌, ◌≤◌, ℕ, length, slice_index}
use Rattle.slot_analysis.specs.Slots.{end_of}
use Rattle.grammar_check.proofs.links.floors_of.Given as goal

abbrev pub invariant-loop-s : goal.invariant-loop-s
invariant-loop-s l = record {
  sized : length l.floors.items ≡ slice_index l.bases l.s;
  floor : (s x : ℕ) → s < l.s → slice_index l.bases s ≤ x → x < end_of l.bases s → slice_index l.floors.items x ≡ slice_index l.bases s;
}
