-- Stacks in one list of rows: a row names the place after the one below it, so that stacks share what lies below. The place 0 is the
-- bottom, and a row names none that is later than itself.
use Rattle.std.specs.Prelude.{◌≡◌, ℕ, suc, ◌≤◌, List, [], ◌∷◌, ◌++◌, Some, slice_get}

pub record IsTop {R V : Type 0} (value : R → V) (below : R → ℕ) (rows : List R) (top : ℕ) (v : V) : Type 0 where
  pub place : ℕ
  pub row : R
  pub top_is : top ≡ suc place
  pub row_is : slice_get rows place ≡ Some row
  pub value_is : value row ≡ v
  pub under : below row ≤ place

-- the stack whose topmost row lies before that place
abbrev pub IsLinked : {R V : Type 0} → (R → V) → (R → ℕ) → List R → ℕ → List V → Type 0
IsLinked value below rows top [] = top ≡ 0
IsLinked value below rows top (v ∷ vs) = (t : IsTop value below rows top v) × IsLinked value below rows (below t.row) vs

-- rows are only added
pub record Grows {R : Type 0} (old new : List R) : Type 0 where
  pub more : List R
  pub is : new ≡ old ++ more
