use Rattle.std.proofs.Common.{ℕ, ◌<◌, ◌≤◌, ◌-◌}
use Rattle.grammar_model.specs.Grammar.{rule_at, child_slot}
use Rattle.grammar_model.specs.Analysis.{IsNullable}
use Rattle.grammar_check.proofs.links.solid_end.Given as goal

abbrev pub invariant-loop-k : goal.invariant-loop-k
invariant-loop-k l = record {
  within : l.end ≤ l.k;
  behind : (j : ℕ) → l.end ≤ j → j < l.k → IsNullable l.w (child_slot (rule_at l.w l.i) j);
  last : 0 < l.end → IsNullable l.w (child_slot (rule_at l.w l.i) (l.end - 1)) → ⊥;
}
