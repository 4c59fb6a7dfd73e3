-- Lists that are gathered from rows, one after another.
use Rattle.std.specs.Prelude.{◌≡◌, ◌⊎◌, ◌↔◌, ◌++◌, List, [], ◌∷◌, Contains}

-- the element goes last, if P holds
abbrev pub AddsIf : {A : Type 0} → Type 0 → A → (old new : List A) → Type 0
AddsIf P x old new = (P × (new ≡ old ++ x ∷ [])) ⊎ ((P → ⊥) × (new ≡ old))

-- the list has f of just those rows that have P
abbrev pub Gathers : {A B : Type 0} → (A → Type 0) → (A → B) → List A → List B → Type 0
Gathers {A} {B} P f rows xs = (y : B) → Contains xs y ↔ ((r : A) × Contains rows r × P r × (f r ≡ y))
