use Rattle.std.proofs.Common.{◌≡◌, ℕ, ◌<◌, ◌≤◌, length, slice_index}
use Rattle.grammar_model.specs.Grammar.{rule_at, lhs_of}
use Rattle.grammar_core.specs.Rules.{groups_of}
use Rattle.slot_analysis.proofs.slots.rooms_of.Given as goal

abbrev pub invariant-loop-i : goal.invariant-loop-i
invariant-loop-i l = (length l.rooms.items ≡ length l.w.names) × ((s : ℕ) → s < length l.w.names → 0 < slice_index l.rooms.items s)
    × ((j : ℕ) → j < l.i → groups_of (rule_at l.w j) ≤ slice_index l.rooms.items (lhs_of (rule_at l.w j)))
