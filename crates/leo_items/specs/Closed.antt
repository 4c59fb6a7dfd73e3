-- Sets that grow until what follows from their items is there.
use Rattle.std.specs.Prelude.{ℕ, ◌<◌, ◌≤◌, List, length, slice_index_or, Contains}
use Rattle.recognizer_model.specs.declared.Item.{Item}
use Rattle.recognizer_model.specs.Flat.{FlatGrammar}
use Rattle.item_rows.specs.Kept.{AreItems}
pub use Rattle.item_sets.specs.Adding.{Adds, Grows}

-- what some items lead to
pub data IsReached (F : Item → Item → Type 0) (seeds : List Item) : Item → Type 0 where
  Seed : {item : Item} → Contains seeds item → IsReached F seeds item
  Step : {item next : Item} → IsReached F seeds item → F item next → IsReached F seeds next

-- a set in which what follows from the first k items is there
pub record IsClosedTo (g : FlatGrammar) (F : Item → Item → Type 0) (seeds keys : List Item) (k : ℕ) : Type 0 where
  pub begun : (item : Item) → Contains seeds item → Contains keys item
  pub reached : (item : Item) → Contains keys item → IsReached F seeds item
  pub followed : (i : ℕ) (d : Item) → i < k → (other : Item) → F (slice_index_or keys i d) other → Contains keys other
  pub within : k ≤ length keys
  pub items : AreItems g keys
