-- Sets of items that grow.
use Rattle.std.specs.Prelude.{◌≡◌, ◌++◌, ◌∷◌, [], List, Contains, ◌↔◌, ◌⊎◌}
use Rattle.recognizer_model.specs.declared.Item.{Item}

-- an item that was there, or that goes last
abbrev pub Adds : (old new : List Item) → Item → Type 0
Adds old new item = ((new ≡ old) × Contains old item) ⊎ ((new ≡ old ++ item ∷ []) × (¬ Contains old item))

-- a set after some items were added to it
pub record Grows (old new items : List Item) : Type 0 where
  pub begins : (more : List Item) × (new ≡ old ++ more)
  pub has : (item : Item) → Contains new item ↔ (Contains old item ⊎ Contains items item)
