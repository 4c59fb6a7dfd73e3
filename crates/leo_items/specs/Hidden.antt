-- The items of a set that are not kept, which Leo's sets leave out, by rows: single steps from whole items that are kept.
use Rattle.std.specs.Prelude.{◌≡◌, ℕ, ◌<◌, ◌≤◌, List, Contains}
use Rattle.recognizer_model.specs.declared.Item.{Item}
use Rattle.recognizer_model.specs.Flat.{FlatGrammar, lhs_of}
use Rattle.recognizer_model.specs.Items.{IsWhole, advanced}
use Rattle.item_rows.specs.Rows.{row_at}
use Rattle.leo_items.specs.ByRows.{IsLeoIn, LeadsIn}

-- a whole item of the row that begins at the place `from` or after it
abbrev pub IsWholeFrom : FlatGrammar → List Item → (from : ℕ) → Item → Type 0
IsWholeFrom g row from item = Contains row item × IsWhole g item × (from ≤ item.origin)

-- the single step of a whole item, if it begins at `from` or after it
abbrev pub IsSingleStep : FlatGrammar → List (List Item) → (earleme from : ℕ) → Item → Item → Type 0
IsSingleStep g rows earleme from item other =
    (item.origin < earleme) × ((leo : Item) × IsLeoIn g rows item.origin (lhs_of g item.rule) leo × (other ≡ advanced leo)) × (from ≤ other.origin)

-- an item of a list that begins at `from` or after it
abbrev pub IsFrom : List Item → (from : ℕ) → Item → Type 0
IsFrom items from item = Contains items item × (from ≤ item.origin)

-- no single step leads on from those
abbrev pub NoneLeadsOn : FlatGrammar → List (List Item) → (earleme from : ℕ) → List Item → Type 0
NoneLeadsOn g rows earleme from items = (item step : Item) → IsFrom items from item → ¬ IsSingleStep g rows earleme from item step

-- what single steps lead to from the whole items of a row
pub data IsStepped (g : FlatGrammar) (rows : List (List Item)) (earleme from : ℕ) : Item → Type 0 where
  Kept : {item : Item} → IsWholeFrom g (row_at rows earleme) from item → IsStepped g rows earleme from item
  Step : {item other : Item} → IsStepped g rows earleme from item → IsSingleStep g rows earleme from item other → IsStepped g rows earleme from other

-- of that, what is not in the row
abbrev pub IsHiddenIn : FlatGrammar → List (List Item) → (earleme from : ℕ) → Item → Type 0
IsHiddenIn g rows earleme from item = IsStepped g rows earleme from item × (¬ Contains (row_at rows earleme) item)

-- the item begins before the place, and completions of it lead to the other in the end
abbrev pub LeadsUpIn : FlatGrammar → List (List Item) → (earleme : ℕ) → (item topmost : Item) → Type 0
LeadsUpIn g rows earleme item topmost = (item.origin < earleme) × LeadsIn g rows item.origin (lhs_of g item.rule) topmost

-- a whole item of the row of which completions lead there
abbrev pub IsBottomIn : FlatGrammar → List (List Item) → (earleme : ℕ) → (topmost item : Item) → Type 0
IsBottomIn g rows earleme topmost item = Contains (row_at rows earleme) item × IsWhole g item × (item.origin < earleme) × LeadsIn g rows item.origin (lhs_of g item.rule) topmost

-- one that is not in the row
abbrev pub IsBelowIn : FlatGrammar → List (List Item) → (earleme : ℕ) → (topmost item : Item) → Type 0
IsBelowIn g rows earleme topmost item = IsHiddenIn g rows earleme 0 item × LeadsIn g rows item.origin (lhs_of g item.rule) topmost

-- the same for one of some topmost items
abbrev pub IsBottomOf : FlatGrammar → List (List Item) → (earleme : ℕ) → (tops : List Item) → Item → Type 0
IsBottomOf g rows earleme tops item = (topmost : Item) × Contains tops topmost × IsBottomIn g rows earleme topmost item

abbrev pub IsBelowOf : FlatGrammar → List (List Item) → (earleme : ℕ) → (tops : List Item) → Item → Type 0
IsBelowOf g rows earleme tops item = (topmost : Item) × Contains tops topmost × IsBelowIn g rows earleme topmost item

-- two single steps lead on from the item, and the first leads to one that begins at `from` or after it
abbrev pub StepsTwice : FlatGrammar → List (List Item) → (earleme from : ℕ) → Item → Type 0
StepsTwice g rows earleme from item = (step : Item) × IsSingleStep g rows earleme from item step × ((next : Item) × IsSingleStep g rows earleme 0 step next)

-- from a whole item of the row they do
abbrev pub SomeStepsTwiceIn : FlatGrammar → List (List Item) → (earleme from : ℕ) → Type 0
SomeStepsTwiceIn g rows earleme from = (item : Item) × (Contains (row_at rows earleme) item × IsWhole g item) × StepsTwice g rows earleme from item
