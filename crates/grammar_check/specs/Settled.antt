-- Cycles of steps between numbers: there are none, or the least number on one. A number is settled where no endless walk
-- leads to it: all from which there is a step to it are settled. Past the numbers stand as many again, each for all that
-- are tied to a number.
use Rattle.std.specs.Prelude.{◌≡◌, ℕ, suc, ◌+◌, ◌-◌, ◌<◌, nat_lt, if◌then◌else◌, List, [], ◌∷◌, length, map, slice_index, Contains, ◌⊎◌, ◌↔◌}
use Rattle.horn_clauses.specs.Least.{Clause, IsLeastSet}
use Rattle.jagged.specs.Rows.{row_at}
use Rattle.grammar_check.specs.Links.{Step, Walks}

abbrev pub node_clause : List (List ℕ) → (total y : ℕ) → Clause
node_clause rows total y = record { head = y; body = map (λ h. total + h) (row_at rows y) }

abbrev pub use_clause : List ℕ → (total y : ℕ) → Clause
use_clause floors total y = record { head = total + y; body = y ∷ (if nat_lt (slice_index floors y) y then (total + (y - 1)) ∷ [] else []) }

-- of the first n numbers
abbrev pub IsOfNodes : List (List ℕ) → (total n : ℕ) → Clause → Type 0
IsOfNodes rows total n c = (y : ℕ) × (y < n) × (c ≡ node_clause rows total y)

abbrev pub IsOfUses : List ℕ → (total n : ℕ) → Clause → Type 0
IsOfUses floors total n c = (y : ℕ) × (y < n) × (c ≡ use_clause floors total y)

-- the least set that the clauses of all numbers make
abbrev pub AreSettled : List (List ℕ) → List ℕ → List ℕ → Type 0
AreSettled rows floors keys =
    (clauses : List Clause) × ((c : Clause) → Contains clauses c ↔ (IsOfNodes rows (length rows) (length rows) c ⊎ IsOfUses floors (length rows) (length rows) c)) × IsLeastSet clauses keys

-- no number below this one is on a cycle
abbrev pub NoneBelow : List (List ℕ) → List ℕ → ℕ → Type 0
NoneBelow rows floors to = (x m : ℕ) → x < to → Walks rows floors x (suc m) x → ⊥

-- heights that rise along each step
pub record Rises (rows : List (List ℕ)) (floors : List ℕ) : Type 0 where
  pub height : ℕ → ℕ
  pub top : ℕ
  pub below : (t : ℕ) → t < length rows → height t < top
  pub rises : (x t : ℕ) → t < length rows → Step rows floors x t → height x < height t
