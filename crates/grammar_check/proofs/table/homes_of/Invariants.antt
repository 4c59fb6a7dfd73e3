use Rattle.std.proofs.Common.{◌≡◌, ◌<◌, ◌≤◌, ℕ, length, slice_index}
use Rattle.slot_analysis.specs.Slots.{end_of}
use Rattle.grammar_check.proofs.table.homes_of.Given as goal

abbrev pub invariant-loop-s : goal.invariant-loop-s
invariant-loop-s l = record {
  sized : length l.homes.items ≡ slice_index l.bases l.s;
  home : (s x : ℕ) → s < l.s → slice_index l.bases s ≤ x → x < end_of l.bases s → slice_index l.homes.items x ≡ s;
}
