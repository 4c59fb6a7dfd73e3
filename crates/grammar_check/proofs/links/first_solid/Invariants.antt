use Rattle.std.proofs.Common.{ℕ, ◌<◌}
use Rattle.grammar_model.specs.Grammar.{rule_at, child_slot}
use Rattle.grammar_model.specs.Analysis.{IsNullable}
use Rattle.grammar_check.proofs.links.first_solid.Given as goal

abbrev pub invariant-loop-k : goal.invariant-loop-k
invariant-loop-k l = (j : ℕ) → j < l.k → IsNullable l.w (child_slot (rule_at l.w l.i) j)
