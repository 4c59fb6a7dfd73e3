-- Least sets by rules: a clause puts its head into the set where all of its body is there.
-- Source: Dowling and Gallier 1984 (Horn clauses).
use Rattle.std.specs.Prelude.{◌≡◌, ◌≢◌, ℕ, zero, suc, ◌<◌, ◌≤◌, List, [], ◌++◌, length, take, slice_index, slice_index_or, All, Contains, ◌∷◌, ◌⊎◌}

pub record Clause : Type 0 where
  pub head : ℕ
  pub body : List ℕ

-- the clauses with these heads and bodies
abbrev pub clauses_of : List ℕ → List (List ℕ) → List Clause
clauses_of [] bodies = []
clauses_of (head ∷ heads) [] = []
clauses_of (head ∷ heads) (body ∷ bodies) = record { head = head; body = body } ∷ clauses_of heads bodies

abbrev pub clause_at : List Clause → ℕ → Clause
clause_at clauses i = slice_index_or clauses i (record { head = 0; body = [] })

-- derived in so many rounds
abbrev pub IsDerivedIn : ℕ → List Clause → ℕ → Type 0
IsDerivedIn zero clauses x = ⊥
IsDerivedIn (suc n) clauses x = (i : ℕ) × (i < length clauses) × ((clause_at clauses i).head ≡ x) × All (IsDerivedIn n clauses) (clause_at clauses i).body

abbrev pub IsDerived : List Clause → ℕ → Type 0
IsDerived clauses x = (n : ℕ) × IsDerivedIn n clauses x

-- made by a clause from numbers that stand before its place
abbrev pub IsMade : List Clause → List ℕ → ℕ → Type 0
IsMade clauses keys k = (i : ℕ) × (i < length clauses) × ((clause_at clauses i).head ≡ slice_index keys k) × All (Contains (take k keys)) (clause_at clauses i).body

-- what the clauses derive from the set's own is in the set
abbrev pub IsClosed : List Clause → List ℕ → Type 0
IsClosed clauses keys = (i : ℕ) → i < length clauses → All (Contains keys) (clause_at clauses i).body → Contains keys (clause_at clauses i).head

pub record IsLeastSet (clauses : List Clause) (keys : List ℕ) : Type 0 where
  pub derived : (x : ℕ) → Contains keys x → IsDerived clauses x
  pub closed : IsClosed clauses keys
  pub made : (k : ℕ) → k < length keys → IsMade clauses keys k

-- the numbers in clauses are below a bound
abbrev pub AreBelow : ℕ → List Clause → Type 0
AreBelow bound clauses = (i : ℕ) → i < length clauses → ((clause_at clauses i).head < bound) × All (λ x. x < bound) (clause_at clauses i).body

-- A SEARCH, WHICH GOES THROUGH EACH BODY ONCE

abbrev pub part_at : List Clause → List ℕ → ℕ → ℕ
part_at clauses places i = slice_index (clause_at clauses i).body (slice_index places i)

-- what is found is derived, and so is each part of a body before the place that the search has come to
pub record IsSearch (clauses : List Clause) (keys places : List ℕ) : Type 0 where
  pub derived : (x : ℕ) → Contains keys x → IsDerivedIn (length keys) clauses x
  pub made : (k : ℕ) → k < length keys → IsMade clauses keys k
  pub sized : length places ≡ length clauses
  pub within : (i : ℕ) → i < length clauses → slice_index places i ≤ length (clause_at clauses i).body
  pub passed : (i m : ℕ) → i < length clauses → m < slice_index places i → Contains keys (slice_index (clause_at clauses i).body m)

-- the clause has done its work, or it waits for a number that is none of the first k found
abbrev pub Waits : List Clause → List ℕ → List ℕ → ℕ → ℕ → Type 0
Waits clauses keys places k i =
    Contains keys (clause_at clauses i).head ⊎ ((slice_index places i < length (clause_at clauses i).body) × ((j : ℕ) → j < k → slice_index keys j ≢ part_at clauses places i))

abbrev pub Extends : List ℕ → List ℕ → Type 0
Extends old new = (more : List ℕ) × (new ≡ old ++ more)

abbrev pub Adds : (old new : List ℕ) → ℕ → Type 0
Adds old new x = ((new ≡ old) × Contains old x) ⊎ (new ≡ old ++ x ∷ [])

-- one clause went on
pub record Advances (clauses : List Clause) (keys places new_keys new_places : List ℕ) (i : ℕ) : Type 0 where
  pub search : IsSearch clauses new_keys new_places
  pub extends : Extends keys new_keys
  pub settled : (k : ℕ) → k ≤ length new_keys → Waits clauses new_keys new_places k i
  pub others : (k j : ℕ) → k ≤ length keys → Waits clauses keys places k j → Waits clauses new_keys new_places k j

-- the clauses of a row went on
pub record HasVisited (clauses : List Clause) (keys row : List ℕ) (k : ℕ) (new_keys new_places : List ℕ) : Type 0 where
  pub search : IsSearch clauses new_keys new_places
  pub extends : Extends keys new_keys
  pub waits : (i : ℕ) → i < length clauses → Waits clauses new_keys new_places k i
  pub done : (i : ℕ) → Contains row i → Waits clauses new_keys new_places (suc k) i
