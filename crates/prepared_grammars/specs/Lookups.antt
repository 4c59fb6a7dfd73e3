-- What is looked for, by tables of a grammar.
use Rattle.std.specs.Prelude.{◌≡◌, ℕ, ◌⊎◌, List, Option, Some, IsTrue, IsFalse, Contains, slice_get, slice_set}
use Rattle.language_model.specs.Building.{Built, LexemeRow}
use Rattle.prepared_grammars.specs.Gathered.{Gathers}

-- the start that the symbol has by the table
abbrev pub HasStart : List (Option ℕ) → (symbol start : ℕ) → Type 0
HasStart starts s k = slice_get starts s ≡ Some (Some k)

-- the element at the place is set, if P holds
abbrev pub SetsIf : {A : Type 0} → Type 0 → (place : ℕ) → A → (old new : List A) → Type 0
SetsIf P k x old new = (P × (new ≡ slice_set old k x)) ⊎ ((P → ⊥) × (new ≡ old))

-- the lexemes that are not always looked for have their starts, and others may have theirs
pub record AreStarts (lexemes : List LexemeRow) (starts : List (Option ℕ)) : Type 0 where
  pub there : (l : LexemeRow) → Contains lexemes l → IsTrue l.latm → HasStart starts l.symbol l.start
  pub only : (s k : ℕ) → HasStart starts s k → (l : LexemeRow) × Contains lexemes l × (l.symbol ≡ s) × (l.start ≡ k)

pub record AreLookups (b : Built) (always : List ℕ) (starts : List (Option ℕ)) : Type 0 where
  pub are_always : Gathers (λ (l : LexemeRow). IsFalse l.latm) (λ (l : LexemeRow). l.start) b.lexemes always
  pub are_starts : AreStarts b.lexemes starts
