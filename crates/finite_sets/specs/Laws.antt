-- Sets of numbers below a bound: those that grow round by round settle, and steps that a test tells lead back or fall.
-- Source: the usual closure of a finite set under monotone steps.
use Rattle.std.specs.Prelude.{◌≡◌, ℕ, zero, suc, ◌<◌, ◌≤◌, ◌⊎◌, Bool, true, false}
use Rattle.finite_sets.specs.Decided.{IsDecided}
use Rattle.finite_sets.specs.Walks.{Walk, Leads}

-- below the bound, what is in the one set is in the other
abbrev pub IsWithin : ℕ → (ℕ → Bool) → (ℕ → Bool) → Type 0
IsWithin bound p q = (x : ℕ) → x < bound → p x ≡ true → q x ≡ true

-- a round more of a larger set is larger
abbrev pub Grows : ℕ → ((ℕ → Bool) → ℕ → Bool) → Type 0
Grows bound next = (p q : ℕ → Bool) → IsWithin bound p q → IsWithin bound (next p) (next q)

-- nothing, and then round by round
abbrev pub round : ((ℕ → Bool) → ℕ → Bool) → ℕ → ℕ → Bool
round next zero x = false
round next (suc k) x = next (round next k) x

-- some round, no later than the bound, has all
abbrev pub RoundsSettle : Type 0
RoundsSettle = (bound : ℕ) (next : (ℕ → Bool) → ℕ → Bool) → Grows bound next → (m : ℕ) × (m ≤ bound) × ((k : ℕ) → IsWithin bound (round next k) (round next m))

-- a step to a number below the bound
abbrev pub Step : ℕ → (ℕ → ℕ → Bool) → ℕ → ℕ → Type 0
Step bound step x y = (y < bound) × (step x y ≡ true)

abbrev pub WalksAreDecided : Type 0
WalksAreDecided = (bound : ℕ) (step : ℕ → ℕ → Bool) (x y : ℕ) → IsDecided ((n : ℕ) × Walk (Step bound step) n x y)

abbrev pub WalksAreShort : Type 0
WalksAreShort = (bound : ℕ) (step : ℕ → ℕ → Bool) (n x y : ℕ) → Walk (Step bound step) n x y → (m : ℕ) × (m ≤ bound) × Walk (Step bound step) m x y

-- some number leads back to itself, or a height falls by each step
abbrev pub HeightsOrCycle : Type 0
HeightsOrCycle = (bound : ℕ) (step : ℕ → ℕ → Bool) → ((x : ℕ) × Leads (Step bound step) x x) ⊎ ((height : ℕ → ℕ) × ((x y : ℕ) → Step bound step x y → height y < height x))
