use Rattle.std.proofs.Common.{ℕ, ◌<◌}
use Rattle.grammar_model.specs.Grammar.{rule_at, child_slot}
use Rattle.grammar_model.specs.Analysis.{IsProductive}
use Rattle.slot_analysis.proofs.steps.is_live.Given as goal

abbrev pub invariant-loop-k : goal.invariant-loop-k
invariant-loop-k l = (j : ℕ) → j < l.k → IsProductive l.w (child_slot (rule_at l.w l.i) j)
