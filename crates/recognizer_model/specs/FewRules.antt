-- How many flat rules a grammar may have.
use Rattle.std.specs.Prelude.{ℕ, ◌<◌, ◌≤◌}
use Rattle.grammar_model.specs.Grammar.{Grammar}
use Rattle.grammar_model.specs.declared.limits.TheConstants.{MOST_FLAT_RULES}
use Rattle.recognizer_model.specs.Counts.{IsCountOf}
use Rattle.recognizer_model.specs.FlatForm.{IsRuleOf}

pub record HasFewRules (g : Grammar) : Type 0 where
  pub count : ℕ
  pub counted : IsCountOf (IsRuleOf g) count
  pub few : count ≤ MOST_FLAT_RULES

pub record HasTooManyRules (g : Grammar) : Type 0 where
  pub count : ℕ
  pub counted : IsCountOf (IsRuleOf g) count
  pub many : MOST_FLAT_RULES < count
