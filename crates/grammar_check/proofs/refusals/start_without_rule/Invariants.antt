use Rattle.std.proofs.Common.{◌≡◌, ℕ, ◌<◌, slice_get, Some}
use Rattle.grammar_model.specs.Checked.{IsLeft}
use Rattle.grammar_check.proofs.refusals.start_without_rule.Given as goal

abbrev pub invariant-loop-k : goal.invariant-loop-k
invariant-loop-k l = (j t : ℕ) → j < l.k → slice_get l.analysis.starts j ≡ Some t → IsLeft l.analysis t
