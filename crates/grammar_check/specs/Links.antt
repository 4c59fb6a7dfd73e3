-- Steps between the numbers of slots. A row has, for a number, the tightest slots from which there is a step to it;
-- the looser ones of the same symbol have it too, down to the symbol's first number, their floor.
use Rattle.std.specs.Prelude.{◌≡◌, ℕ, zero, suc, ◌-◌, ◌<◌, ◌≤◌, List, ◌++◌, length, slice_index, Contains}
use Rattle.jagged.specs.Rows.{row_at}

-- a looser slot of the same symbol, or the same slot
abbrev pub Tied : List ℕ → (x h : ℕ) → Type 0
Tied floors x h = (slice_index floors h ≤ x) × (x ≤ h)

abbrev pub Step : List (List ℕ) → List ℕ → (x t : ℕ) → Type 0
Step rows floors x t = (h : ℕ) × Contains (row_at rows t) h × Tied floors x h

-- so many steps from a number to another
abbrev pub Walks : List (List ℕ) → List ℕ → (to : ℕ) → ℕ → (x : ℕ) → Type 0
Walks rows floors to zero x = x ≡ to
Walks rows floors to (suc n) x = (t : ℕ) × Step rows floors x t × Walks rows floors to n t

-- all numbers from a floor up to a number have that floor
pub record AreFloors (floors : List ℕ) : Type 0 where
  pub below : (h : ℕ) → h < length floors → slice_index floors h ≤ h
  pub same : (h x : ℕ) → h < length floors → slice_index floors h ≤ x → x ≤ h → slice_index floors x ≡ slice_index floors h

abbrev pub AreRows : ℕ → List (List ℕ) → Type 0
AreRows bound rows = (x h : ℕ) → Contains (row_at rows x) h → h < bound

-- with a number all are there that are tied to it
abbrev pub IsDown : List ℕ → List ℕ → Type 0
IsDown floors keys = (x h : ℕ) → Contains keys h → Tied floors x h → Contains keys x

-- numbers were added: those of which P holds and which were not there
pub record Gains (old new : List ℕ) (P : ℕ → Type 0) : Type 0 where
  pub more : List ℕ
  pub extends : new ≡ old ++ more
  pub only : (x : ℕ) → Contains more x → P x
  pub fresh : (x : ℕ) → Contains more x → Contains old x → ⊥
  pub has : (x : ℕ) → P x → Contains new x

-- what has a step to one of the numbers at some places
abbrev pub StepsInto : List (List ℕ) → List ℕ → (keys : List ℕ) → (from to : ℕ) → ℕ → Type 0
StepsInto rows floors keys from to x = (j : ℕ) × (from ≤ j) × (j < to) × Step rows floors x (slice_index keys j)

-- layer n, counted from 0, has what is n + 1 steps and no fewer from a number
pub record AreLayers (rows : List (List ℕ)) (floors : List ℕ) (to : ℕ) (keys starts : List ℕ) : Type 0 where
  pub begin : slice_index starts 0 ≡ 0
  pub rising : (n : ℕ) → suc n < length starts → slice_index starts n ≤ slice_index starts (suc n)
  pub within : (n : ℕ) → n < length starts → slice_index starts n ≤ length keys
  pub sound : (n j : ℕ) → suc n < length starts → slice_index starts n ≤ j → j < slice_index starts (suc n) → Walks rows floors to (suc n) (slice_index keys j)
  pub least : (n j m : ℕ) → suc n < length starts → slice_index starts n ≤ j → j < length keys → Walks rows floors to (suc m) (slice_index keys j) → n ≤ m
  pub complete : (n x : ℕ) → suc n < length starts → Walks rows floors to (suc n) x → (j : ℕ) × (j < slice_index starts (suc n)) × (slice_index keys j ≡ x)

-- the least of the numbers at some places to which there is a step
pub record IsLeastNext (rows : List (List ℕ)) (floors keys : List ℕ) (from to x t : ℕ) : Type 0 where
  pub place : (j : ℕ) × (from ≤ j) × (j < to) × (slice_index keys j ≡ t)
  pub step : Step rows floors x t
  pub least : (j : ℕ) → from ≤ j → j < to → Step rows floors x (slice_index keys j) → t ≤ slice_index keys j

-- a shortest walk of n steps from a number back to it, each time by the least number that a shortest one can go on by
pub record IsLeastPath (rows : List (List ℕ)) (floors : List ℕ) (to n : ℕ) (path : List ℕ) : Type 0 where
  pub some : 0 < n
  pub sized : length path ≡ suc n
  pub first : slice_index path 0 ≡ to
  pub last : slice_index path n ≡ to
  pub steps : (i : ℕ) → i < n → Step rows floors (slice_index path i) (slice_index path (suc i))
  pub least : (i t : ℕ) → i < n → Step rows floors (slice_index path i) t → Walks rows floors to (n - suc i) t → slice_index path (suc i) ≤ t
  pub shortest : (m : ℕ) → Walks rows floors to (suc m) to → n ≤ suc m
