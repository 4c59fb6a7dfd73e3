-- What a set begins with, what goes on from that, and when rows are the reduced sets.
use Rattle.std.specs.Prelude.{◌≡◌, ℕ, ◌<◌, ◌++◌, ◌∷◌, [], List, Some, length, slice_get, Contains, ◌↔◌, ◌⊎◌}
use Rattle.grammar_model.specs.declared.Edge.{Edge as HeldEdge}
use Rattle.grammar_model.specs.Derives.{Held}
use Rattle.recognizer_model.specs.declared.Item.{Item}
use Rattle.recognizer_model.specs.Counts.{IsListOf}
use Rattle.recognizer_model.specs.Flat.{FlatGrammar}
use Rattle.recognizer_model.specs.declared.flat.FlatSymbol.TheVariants.{Terminal}
use Rattle.recognizer_model.specs.FlatForm.{FlatEdges}
use Rattle.recognizer_model.specs.Items.{after, first_item, advanced}
use Rattle.recognizer_model.specs.Leo.{InReduced}
use Rattle.item_rows.specs.Rows.{row_at}
use Rattle.begun_lists.specs.Closing.{GoesOn, IsReached}
use Rattle.earley_sets.specs.Kept.{IsRowOf}

-- an edge of a terminal leads from an item that waits for it
pub record IsScannedBy (g : FlatGrammar) (rows : List (List Item)) (edge : HeldEdge) (other : Item) : Type 0 where
  pub symbol : ℕ
  pub is_symbol : slice_get g.symbols symbol ≡ Some (Terminal edge.symbol)
  pub waiting : Item
  pub there : Contains (row_at rows edge.from) waiting
  pub waits : after g waiting ≡ Some symbol
  pub same : other ≡ advanced waiting

-- one of the edges that end at the place does
abbrev pub IsScanned : FlatGrammar → List (List Item) → (earleme : ℕ) → List HeldEdge → Item → Type 0
IsScanned g rows earleme edges other = (edge : HeldEdge) × Contains edges edge × (edge.to ≡ earleme) × IsScannedBy g rows edge other

-- what a set begins with
abbrev pub IsSeed : FlatGrammar → List (List Item) → (top earleme : ℕ) → List HeldEdge → Item → Type 0
IsSeed g rows top earleme edges item = ((earleme ≡ 0) × (item ≡ first_item top 0)) ⊎ IsScanned g rows earleme edges item

-- a kernel: what a set begins with, and what goes on from that
pub record IsKernel (g : FlatGrammar) (rows : List (List Item)) (top earleme : ℕ) (edges : List HeldEdge) (items : List Item) : Type 0 where
  pub seeds : List Item
  pub are : (item : Item) → Contains seeds item ↔ IsSeed g rows top earleme edges item
  pub exact : (item : Item) → Contains items item ↔ IsReached (GoesOn g rows earleme) seeds item

abbrev pub GoForward : List HeldEdge → Type 0
GoForward edges = (e : HeldEdge) → Contains edges e → e.from < e.to

-- the rows before a place are the reduced sets
abbrev pub AreReduced : FlatGrammar → List HeldEdge → (top : ℕ) → List (List Item) → (earleme : ℕ) → Type 0
AreReduced g edges top rows earleme = (i : ℕ) → i < earleme → (item : Item) → Contains (row_at rows i) item ↔ InReduced g (FlatEdges g (Held edges)) top i item

-- one more row, which is the reduced set of its place
abbrev pub AddsRow : FlatGrammar → List HeldEdge → (top : ℕ) → (old new : List (List Item)) → Type 0
AddsRow g edges top old new = (row : List Item) × (new ≡ old ++ row ∷ []) × IsRowOf g (length old) row ×
    IsListOf (InReduced g (FlatEdges g (Held edges)) top (length old)) row
