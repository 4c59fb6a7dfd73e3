use Rattle.std.proofs.Common.{ℕ, ◌<◌}
use Rattle.grammar_model.specs.Checked.{IsCountedNullable}
use Rattle.grammar_check.proofs.refusals.counted_nullable.Given as goal

abbrev pub invariant-loop-i : goal.invariant-loop-i
invariant-loop-i l = (j : ℕ) → j < l.i → IsCountedNullable l.analysis j → ⊥
