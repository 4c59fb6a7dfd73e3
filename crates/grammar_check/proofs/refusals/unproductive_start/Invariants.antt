use Rattle.std.proofs.Common.{◌≡◌, ℕ, ◌<◌, slice_get, Some}
use Rattle.grammar_model.specs.Grammar.{slot_of}
use Rattle.grammar_model.specs.Analysis.{IsProductive}
use Rattle.grammar_check.proofs.refusals.unproductive_start.Given as goal

abbrev pub invariant-loop-k : goal.invariant-loop-k
invariant-loop-k l = (j t : ℕ) → j < l.k → slice_get l.analysis.starts j ≡ Some t → IsProductive l.analysis (slot_of t)
