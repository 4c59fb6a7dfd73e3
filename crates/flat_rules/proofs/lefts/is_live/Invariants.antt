use Rattle.std.proofs.Common.{ℕ, ◌<◌}
use Rattle.grammar_model.specs.Grammar.{rule_at, child_slot}
use Rattle.grammar_model.specs.Analysis.{IsProductive}
use Rattle.flat_rules.proofs.lefts.is_live.Given as goal

abbrev pub invariant-loop-k : goal.invariant-loop-k
invariant-loop-k l = (j : ℕ) → j < l.k → IsProductive l.c (child_slot (rule_at l.c l.i) j)
