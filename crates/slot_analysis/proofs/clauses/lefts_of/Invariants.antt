use Rattle.std.proofs.Common.{◌≡◌, ℕ, ◌<◌, true, false, length, slice_index_or}
use Rattle.grammar_model.specs.Grammar.{rule_at, lhs_of}
use Rattle.grammar_model.specs.Checked.{IsLeft}
use Rattle.slot_analysis.proofs.clauses.lefts_of.Given as goal

abbrev pub invariant-loop-i : goal.invariant-loop-i
invariant-loop-i l = (length l.lefts.items ≡ length l.w.names) × ((s : ℕ) → slice_index_or l.lefts.items s false ≡ true → IsLeft l.w s)
    × ((j : ℕ) → j < l.i → slice_index_or l.lefts.items (lhs_of (rule_at l.w j)) false ≡ true)
