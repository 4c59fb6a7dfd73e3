-- A set of items as it is held.
use Rattle.std.specs.Prelude.{◌≢◌, ℕ, ◌+◌, ◌*◌, ◌%◌, ◌<◌, ◌≤◌, ◌↔◌, List, length, take, slice_index_or, Contains, AllPairs}
use Rattle.recognizer_model.specs.declared.Item.{Item}

-- the table has exactly so many first items
abbrev pub HasFirst : (table items : List Item) → (filled : ℕ) → Type 0
HasFirst table items filled = (item : Item) → Contains table item ↔ Contains (take filled items) item

-- each item stands in the list once, the table has the first ones, and no item begins before the least origin
pub record IsHeld (items table : List Item) (filled least : ℕ) : Type 0 where
  pub once : AllPairs (λ x y. x ≢ y) items
  pub within : filled ≤ length items
  pub first : HasFirst table items filled
  pub begun : (item : Item) → Contains items item → least ≤ item.origin

-- where an item is marked, of 4,096 places
abbrev pub place_of : Item → ℕ
place_of item = (item.rule + item.dot * 619 + item.origin * 2011) % 4096

-- the place of each item is marked, if there are places
abbrev pub AreMarked : (marks : List ℕ) → (items : List Item) → Type 0
AreMarked marks items = (item : Item) → Contains items item → 0 < slice_index_or marks (place_of item) 1
