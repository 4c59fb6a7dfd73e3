-- Lists of numbers that rise, and how many numbers of each are below each bound.
use Rattle.std.specs.Prelude.{◌≡◌, ◌⊎◌, ℕ, ◌<◌, ◌≤◌, ◌++◌, List, [], ◌∷◌, length, Some, slice_get, slice_index}
use Rattle.jagged.specs.Rows.{row_at}
use Rattle.kernels.specs.Slots.{Rises}

-- so many numbers of the list are below the bound, and they stand first
pub record IsCount (list : List ℕ) (bound count : ℕ) : Type 0 where
  pub within : count ≤ length list
  pub below : (k : ℕ) → k < count → slice_index list k < bound
  pub above : (k : ℕ) → count ≤ k → k < length list → bound ≤ slice_index list k

-- by the bounds from 0 on
abbrev pub AreCounts : (list counts : List ℕ) → Type 0
AreCounts list counts = (bound count : ℕ) → slice_get counts bound ≡ Some count → IsCount list bound count

-- what is below the bounds is counted in the first lists
pub record AreCounted (lists counts : List (List ℕ)) : Type 0 where
  pub few : length counts ≤ length lists
  pub rise : (k : ℕ) → k < length lists → Rises (row_at lists k)
  pub are : (k : ℕ) → AreCounts (row_at lists k) (row_at counts k)

-- the counts of the list at a place are put after those before it, or none are
abbrev pub AddsCounts : (place : ℕ) → (list : List ℕ) → (old new : List (List ℕ)) → Type 0
AddsCounts place list old new = (new ≡ old) ⊎ ((length old ≡ place) × (counts : List ℕ) × (new ≡ old ++ counts ∷ []) × AreCounts list counts)
