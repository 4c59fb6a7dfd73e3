-- A walk along the single steps from some kept items, up to some topmost ones.
use Rattle.std.specs.Prelude.{◌≡◌, ℕ, ◌++◌, [], List, Contains, ◌↔◌, ◌⊎◌}
use Rattle.recognizer_model.specs.declared.Item.{Item}
use Rattle.recognizer_model.specs.Flat.{FlatGrammar}
use Rattle.leo_items.specs.Closed.{Adds, IsClosedTo}
use Rattle.leo_items.specs.Hidden.{IsSingleStep}

-- a set of the items of two lists, or an empty one
abbrev pub AreGathered : (set tops bottoms : List Item) → Type 0
AreGathered set tops bottoms = (set ≡ []) ⊎ ((item : Item) → Contains set item ↔ (Contains tops item ⊎ Contains bottoms item))

-- the step is added, if there is one and it is none of the first items
pub data AddsStep (IsNext : Item → Type 0) (first old : List Item) : List Item → Type 0 where
  NoStep : ((step : Item) → ¬ IsNext step) → AddsStep IsNext first old old
  IsThere : {step : Item} → IsNext step → Contains first step → AddsStep IsNext first old old
  IsNew : {step : Item} {new : List Item} → IsNext step → (¬ Contains first step) → Adds old new step → AddsStep IsNext first old new

-- what leads on from the first k items is there, and none of the first items is found again
pub record IsWalked (g : FlatGrammar) (rows : List (List Item)) (earleme : ℕ) (first below : List Item) (k : ℕ) : Type 0 where
  pub closed : IsClosedTo g (IsSingleStep g rows earleme 0) first (first ++ below) k
  pub apart : (item : Item) → Contains below item → ¬ Contains first item
