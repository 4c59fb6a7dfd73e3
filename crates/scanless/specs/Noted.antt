-- What is noted of places so far: the starts that are looked for there.
use Rattle.std.specs.Prelude.{◌≡◌, ◌≢◌, ◌⊎◌, ℕ, ◌<◌, ◌≤◌, ◌↔◌, List, [], length, map, slice_index_or, IsFalse, Contains}
use Rattle.jagged.specs.Rows.{row_at}
use Rattle.language_model.specs.Building.{Built, LexemeRow}
use Rattle.earley_sets.specs.Recognizer.{Recognizer, set_at, WaitsAt}
use Rattle.scanless.specs.declared.notes.Note.{Note}

-- each place with its list
abbrev pub told : (lists : List (List ℕ)) → List Note → List (ℕ × List ℕ)
told lists notes = map (λ (n : Note). (n.place, row_at lists n.list)) notes

-- what is noted: each place with its list, and where the lexer has the list of a number
pub record Noted : Type 0 where
  pub lists : List (ℕ × List ℕ)
  pub hints : List ℕ

abbrev pub none_noted : Noted
none_noted = record { lists = []; hints = [] }

-- the hint of a number, 0 where none is noted
abbrev pub hint_at : List ℕ → (kind : ℕ) → ℕ
hint_at hints kind = slice_index_or hints kind 0

-- the hint of one number is set
pub record SetsHint (old new : List ℕ) (kind hint : ℕ) : Type 0 where
  pub set : hint_at new kind ≡ hint
  pub others : (k : ℕ) → k ≢ kind → hint_at new k ≡ hint_at old k

abbrev pub AreWithin : (lists : List (List ℕ)) → List Note → Type 0
AreWithin lists notes = (n : Note) → Contains notes n → n.list < length lists

-- where just the terminals of W are acceptable: a discard, a lexeme that is always looked for, or an acceptable one
abbrev pub IsSought : Built → (W : ℕ → Type 0) → ℕ → Type 0
IsSought b W start = Contains b.discards start ⊎ ((l : LexemeRow) × Contains b.lexemes l × (IsFalse l.latm ⊎ W l.symbol) × (l.start ≡ start))

abbrev pub AreSought : Built → (W : ℕ → Type 0) → List ℕ → Type 0
AreSought b W starts = (start : ℕ) → Contains starts start ↔ IsSought b W start

-- each list has what is looked for where the terminals are acceptable that the set of its place waits for
pub record AreNoted (b : Built) (recce : Recognizer) (notes : Noted) : Type 0 where
  pub there : (place : ℕ) (starts : List ℕ) → Contains notes.lists (place, starts) → place < length recce.sets
  pub are : (place : ℕ) (starts : List ℕ) → Contains notes.lists (place, starts) → AreSought b (WaitsAt recce place) starts

-- the sets so far stay
pub record Grows (old new : Recognizer) : Type 0 where
  pub flat : new.flat ≡ old.flat
  pub there : length old.sets ≤ length new.sets
  pub same : (j : ℕ) → j < length old.sets → set_at new j ≡ set_at old j
