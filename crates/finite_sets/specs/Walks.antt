-- Walks: so many steps, one after another.
use Rattle.std.specs.Prelude.{◌≡◌, ℕ, zero, suc}

abbrev pub Walk : {X : Type 0} → (X → X → Type 0) → ℕ → X → X → Type 0
Walk Step zero x y = x ≡ y
Walk {X} Step (suc n) x y = (z : X) × Step x z × Walk Step n z y

-- a walk of one step or more leads to y
abbrev pub Leads : {X : Type 0} → (X → X → Type 0) → X → X → Type 0
Leads Step x y = (n : ℕ) × Walk Step (suc n) x y
