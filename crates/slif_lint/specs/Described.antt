-- The statements of a grammar's text.
use Rattle.std.specs.Prelude.{ℕ, List, map}
use Rattle.language_model.specs.declared.token.Token.{Token}
use Rattle.language_model.specs.Tokens.{AreTokens, spelled_at}
use Rattle.language_model.specs.Description.{Statement, Describes}

-- the characters have this description
pub record IsDescriptionOf (d : List Statement) (cs : List ℕ) : Type 0 where
  pub tokens : List Token
  pub are : AreTokens cs tokens
  pub described : Describes d (map (spelled_at cs) tokens)
