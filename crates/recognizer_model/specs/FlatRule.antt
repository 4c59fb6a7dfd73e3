-- A rule over flat symbols, which are positions in a list of symbols.
use Rattle.std.specs.Prelude.{ℕ, List}
use Rattle.recognizer_model.specs.declared.flat.FlatSource.{FlatSource}

pub record FlatRule : Type 0 where
  pub lhs : ℕ
  pub rhs : List ℕ
  pub source : FlatSource
