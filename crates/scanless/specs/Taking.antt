-- What a recognizer holds when it takes a token.
use Rattle.std.specs.Prelude.{◌≡◌, ℕ, suc, ◌++◌, List, map, Contains}
use Rattle.grammar_model.specs.declared.Edge.{Edge}
use Rattle.earley_sets.specs.Recognizer.{Recognizer, earleme_of, IsExpected}

-- the edges of a token that begins at the place
abbrev pub token_edges : ℕ → List ℕ → List Edge
token_edges place symbols = map (λ s. record { symbol = s; from = place; to = suc place }) symbols

-- nothing but edges may change
pub record Keeps (old new : Recognizer) : Type 0 where
  pub flat : new.flat ≡ old.flat
  pub start : new.start ≡ old.start
  pub sets : new.sets ≡ old.sets
  pub noted : new.noted ≡ old.noted

-- a token is taken, as each of the symbols
pub record Takes (old new : Recognizer) (symbols : List ℕ) : Type 0 where
  pub flat : new.flat ≡ old.flat
  pub start : new.start ≡ old.start
  pub edges : new.edges ≡ old.edges ++ token_edges (earleme_of old) symbols
  pub place : earleme_of new ≡ suc (earleme_of old)

-- nothing but that edges of some expected symbols may begin at the place
pub record TakesSome (old new : Recognizer) : Type 0 where
  pub keeps : Keeps old new
  pub symbols : List ℕ
  pub expected : (s : ℕ) → Contains symbols s → IsExpected old s
  pub edges : new.edges ≡ old.edges ++ token_edges (earleme_of old) symbols
