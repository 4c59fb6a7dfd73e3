-- Rows of numbers, and which clauses stand in them.
use Rattle.std.specs.Prelude.{◌≡◌, ℕ, ◌<◌, List, length, slice_index, Contains, ◌⊎◌, ◌↔◌}
use Rattle.jagged.specs.Rows.{row_at}
use Rattle.horn_clauses.specs.Least.{Clause, clause_at}

-- each row has numbers of clauses, and each number of a body has its clause in its row
pub record HasPlaces (clauses : List Clause) (rows : List (List ℕ)) : Type 0 where
  pub within : (x i : ℕ) → Contains (row_at rows x) i → i < length clauses
  pub all : (i m : ℕ) → i < length clauses → m < length (clause_at clauses i).body → Contains (row_at rows (slice_index (clause_at clauses i).body m)) i

-- a number was added to the row at x
pub record HasAdded (old new : List (List ℕ)) (x i : ℕ) : Type 0 where
  pub same_length : length new ≡ length old
  pub keeps : (y j : ℕ) → Contains (row_at old y) j → Contains (row_at new y) j
  pub only : (y j : ℕ) → Contains (row_at new y) j → Contains (row_at old y) j ⊎ ((y ≡ x) × (j ≡ i))
  pub has : Contains (row_at new x) i

-- a number was added to the row of each of these
pub record HasAddedAll (old new : List (List ℕ)) (xs : List ℕ) (i : ℕ) : Type 0 where
  pub same_length : length new ≡ length old
  pub keeps : (y j : ℕ) → Contains (row_at old y) j → Contains (row_at new y) j
  pub only : (y j : ℕ) → Contains (row_at new y) j → Contains (row_at old y) j ⊎ (j ≡ i)
  pub has : (m : ℕ) → m < length xs → Contains (row_at new (slice_index xs m)) i

-- the places of the first n clauses are there
pub record HasPlacesTo (clauses : List Clause) (rows : List (List ℕ)) (n : ℕ) : Type 0 where
  pub within : (x i : ℕ) → Contains (row_at rows x) i → i < length clauses
  pub all : (i m : ℕ) → i < n → m < length (clause_at clauses i).body → Contains (row_at rows (slice_index (clause_at clauses i).body m)) i

-- each row has the same numbers, maybe in another order
pub record HasSameRows (old new : List (List ℕ)) : Type 0 where
  pub same_length : length new ≡ length old
  pub same : (x n : ℕ) → Contains (row_at new x) n ↔ Contains (row_at old x) n
