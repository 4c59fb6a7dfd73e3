use Rattle.std.proofs.Common.{ℕ, ◌<◌}
use Rattle.grammar_model.specs.Checked.{IsDuplicate}
use Rattle.grammar_check.specs.Shared.{rows_of}
use Rattle.grammar_check.specs.Shared.{HasTexts}
use Rattle.grammar_check.proofs.shared.duplicate_rule.Given as goal

abbrev pub invariant-loop-i : goal.invariant-loop-i
invariant-loop-i l = record {
  none : (j : ℕ) → j < l.i → IsDuplicate l.w j → ⊥;
  texts : HasTexts l.w l.i (rows_of l.texts.keys);
}
