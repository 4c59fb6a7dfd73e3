-- Items that waited, each list with the number of the list of what begins where they wait.
use Rattle.std.specs.Prelude.{◌≡◌, ℕ, ◌<◌, List, length, slice_index_or}
use Rattle.jagged.specs.Rows.{row_at as list_at}
use Rattle.recognizer_model.specs.declared.Item.{Item}
use Rattle.recognizer_model.specs.Flat.{FlatGrammar}
use Rattle.item_rows.specs.Rows.{shared_at}
use Rattle.item_rows.specs.Kept.{IsAwaited}
use Rattle.begun_lists.specs.Begun.{AreBegun, AreLists}
use Rattle.begun_lists.specs.declared.lists.Lists.{Lists}

abbrev pub item_at : List Item → ℕ → Item
item_at items k = slice_index_or items k (record { rule = 0; dot = 0; origin = 0 })

-- the items have the same dotted rules, one by one
pub record HaveSameRules (items others : List Item) : Type 0 where
  pub same : length items ≡ length others
  pub rules : (k : ℕ) → k < length items → (item_at items k).rule ≡ (item_at others k).rule
  pub dots : (k : ℕ) → k < length items → (item_at items k).dot ≡ (item_at others k).dot

-- each list of items is noted with the number of the list of exactly what begins where they wait
pub record AreMet (g : FlatGrammar) (shared : List (List Item)) (lists : List (List Item)) (numbers : List ℕ) : Type 0 where
  pub same : length lists ≡ length numbers
  pub there : (k : ℕ) → k < length lists → slice_index_or numbers k 0 < length shared
  pub begun : (k : ℕ) → k < length lists → AreBegun g (IsAwaited g (list_at lists k)) (shared_at shared (slice_index_or numbers k 0))

-- what is noted, by symbols and by items, are lists of what begins
pub record AreFound (g : FlatGrammar) (shared : List (List Item)) (lists : Lists) : Type 0 where
  pub by_symbols : AreLists g shared lists.numbers.entries
  pub by_items : AreMet g shared lists.met.lists lists.met.numbers.items
