-- What a call on a pool does: the pool is the list of the values that were put in since it was last cleared, and an
-- id is a place in it.
use Rattle.std.specs.Prelude.{◌≡◌, ℕ, ◌<◌, List, [], ◌∷◌, ◌++◌, length, All}
use Rattle.grammar_model.specs.Values.{Value}

-- the new pool has one more value, and the id stands for it
pub record IsPut (old new : List Value) (id : ℕ) (value : Value) : Type 0 where
  pub place : id ≡ length old
  pub values : new ≡ old ++ value ∷ []

-- each of these ids stands for a value
abbrev pub AreIds : List Value → List ℕ → Type 0
AreIds values ids = All (λ id. id < length values) ids
