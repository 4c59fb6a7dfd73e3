use Rattle.std.proofs.Common.{◌≡◌, ℕ, ◌<◌, slice_index}
use Rattle.grammar_model.specs.Grammar.{rule_at, level_of}
use Rattle.flat_rules.proofs.numbering.room_of.Given as goal

abbrev pub invariant-loop-i : goal.invariant-loop-i
invariant-loop-i l = ((j : ℕ) → j < l.i-index → level_of (rule_at l.w (slice_index l.row j)) < l.room) × (l.i-index ≡ 0 → l.room ≡ 0)
