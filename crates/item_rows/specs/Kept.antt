-- Rows of the items of a grammar, one for each place so far.
use Rattle.std.specs.Prelude.{◌≡◌, ℕ, ◌≤◌, List, length, Some, slice_get, Contains}
use Rattle.recognizer_model.specs.declared.Item.{Item}
use Rattle.recognizer_model.specs.declared.flat.FlatSymbol.TheVariants.{Terminal}
use Rattle.recognizer_model.specs.Flat.{FlatGrammar, IsRule, rhs_of}
use Rattle.recognizer_model.specs.Items.{after}
use Rattle.item_rows.specs.Rows.{ItemRows, row_at}

pub record IsItem (g : FlatGrammar) (item : Item) : Type 0 where
  pub is_rule : IsRule g item.rule
  pub within : item.dot ≤ length (rhs_of g item.rule)

abbrev pub AreItems : FlatGrammar → List Item → Type 0
AreItems g items = (item : Item) → Contains items item → IsItem g item

-- an item waits for the symbol
abbrev pub IsAwaited : FlatGrammar → List Item → ℕ → Type 0
IsAwaited g row x = (item : Item) × Contains row item × (after g item ≡ Some x)

abbrev pub StandsForTerminal : FlatGrammar → (symbol : ℕ) → Type 0
StandsForTerminal g x = (t : ℕ) × (slice_get g.symbols x ≡ Some (Terminal t))

-- an item waits for a terminal
abbrev pub WaitsForTerminal : FlatGrammar → Item → Type 0
WaitsForTerminal g item = (x : ℕ) × (after g item ≡ Some x) × StandsForTerminal g x

-- the row of a place
pub record IsRowOf (g : FlatGrammar) (earleme : ℕ) (row : List Item) : Type 0 where
  pub items : AreItems g row
  pub begun : (item : Item) → Contains row item → item.origin ≤ earleme

abbrev pub AreRows : FlatGrammar → List (List Item) → Type 0
AreRows g rows = (i : ℕ) → IsRowOf g i (row_at rows i)

-- rows over that grammar
pub record HasRows (g : FlatGrammar) (rows : ItemRows) : Type 0 where
  pub flat : rows.flat ≡ g
  pub are : AreRows g rows.sets
