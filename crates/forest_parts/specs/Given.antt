-- Hidden items that were brought back for some topmost items, place by place.
use Rattle.std.specs.Prelude.{◌≡◌, ℕ, ◌<◌, ◌≤◌, List, length, map, sum, Contains, AllPairs}
use Rattle.recognizer_model.specs.declared.Item.{Item}
use Rattle.recognizer_model.specs.Counts.{IsListOf}
use Rattle.recognizer_model.specs.Nodes.{Placed}
use Rattle.earley_sets.specs.Recognizer.{Recognizer, earleme_of}
use Rattle.earley_sets.specs.Below.{StandsBelowOf}
use Rattle.forest_parts.specs.Lists.{between}
use Rattle.forest_parts.specs.declared.given.GivenRow.{GivenRow}

-- topmost items of a place, and hidden items below them
pub record GivenAt : Type 0 where
  pub place : ℕ
  pub tops : List Item
  pub items : List Item

-- each place is told once, later ones first
abbrev pub AreFalling : List GivenAt → Type 0
AreFalling given = AllPairs (λ (e later : GivenAt). later.place < e.place) given

-- exactly the hidden items below those topmost items, at a place that there is
pub record IsBelowTops (r : Recognizer) (e : GivenAt) : Type 0 where
  pub place : e.place ≤ earleme_of r
  pub items : IsListOf (StandsBelowOf r e.place e.tops) e.items

abbrev pub AreBelowTops : Recognizer → List GivenAt → Type 0
AreBelowTops r given = (e : GivenAt) → Contains given e → IsBelowTops r e

-- the item is among those of its place
abbrev pub IsInGiven : List GivenAt → Placed → Type 0
IsInGiven given p = (e : GivenAt) × Contains given e × (e.place ≡ p.place) × Contains e.items p.item

-- how many hidden items there are at all places
abbrev pub items_in : List GivenAt → ℕ
items_in given = sum (map (λ (e : GivenAt). length e.items) given)

-- HOW THEY ARE KEPT

-- what a row tells
abbrev pub given_at : (tops items : List Item) → GivenRow → GivenAt
given_at tops items row = record {
  place = row.place;
  tops = between row.first_top row.past_top tops;
  items = between row.first_item row.past_item items;
}

pub record IsRow (tops items : List Item) (row : GivenRow) : Type 0 where
  pub tops_order : row.first_top ≤ row.past_top
  pub tops_bound : row.past_top ≤ length tops
  pub items_order : row.first_item ≤ row.past_item
  pub items_bound : row.past_item ≤ length items

-- rows of such items, each of a place before that of the last one
pub record AreRows (tops items : List Item) (rows : List GivenRow) : Type 0 where
  pub are : (row : GivenRow) → Contains rows row → IsRow tops items row
  pub falls : AllPairs (λ (row later : GivenRow). later.place < row.place) rows
