-- What flattening gives: the flat grammar, or that it has too many rules.
use Rattle.std.specs.Prelude.{◌≡◌, ℕ, ◌<◌, ◌≤◌, length}
use Rattle.grammar_model.specs.Grammar.{Grammar}
use Rattle.grammar_model.specs.declared.limits.TheConstants.{MOST_FLAT_RULES}
use Rattle.recognizer_model.specs.Flat.{FlatGrammar}
use Rattle.recognizer_model.specs.FlatForm.{IsFlatOf}
use Rattle.flat_model.specs.Flatten.{Decided, flat_of}

-- it is the flat grammar, whatever tells what a check decides, and has at most so many rules
pub record IsFlattened (w : Grammar) (f : FlatGrammar) : Type 0 where
  pub decided : Decided w
  pub listed : (d : Decided w) → f ≡ flat_of w d
  pub made : IsFlatOf f w
  pub few : length f.rules ≤ MOST_FLAT_RULES

-- the flat grammar would have more rules
pub record HasTooMany (w : Grammar) : Type 0 where
  pub decided : Decided w
  pub many : (d : Decided w) → MOST_FLAT_RULES < length (flat_of w d).rules
