-- Leo items, and where completions lead, as the rows of the places so far tell them.
use Rattle.std.specs.Prelude.{◌≡◌, ◌≢◌, ℕ, ◌<◌, ◌++◌, List, length, Option, Some, None, Contains, AllPairs}
use Rattle.recognizer_model.specs.declared.Item.{Item}
use Rattle.recognizer_model.specs.Flat.{FlatGrammar, lhs_of, part_of, IsNullable}
use Rattle.recognizer_model.specs.Items.{after, IsWhole, advanced}
use Rattle.item_rows.specs.Rows.{row_at}
use Rattle.recognizer_model.specs.declared.Pair.{Pair}
use Rattle.leo_items.specs.Memo.{Note, noted, pairs_of}

-- the only item of the row that waits for the symbol, and it waits for nothing after that
pub record IsLeoIn (g : FlatGrammar) (rows : List (List Item)) (i x : ℕ) (item : Item) : Type 0 where
  pub there : Contains (row_at rows i) item
  pub waits : after g item ≡ Some x
  pub last : IsWhole g (advanced item)
  pub only : (other : Item) → Contains (row_at rows i) other → after g other ≡ Some x → other ≡ item

abbrev pub IsNotLeoIn : FlatGrammar → List (List Item) → (i x : ℕ) → Type 0
IsNotLeoIn g rows i x = (item : Item) → ¬ IsLeoIn g rows i x item

-- where completions of the symbol lead in the end
pub data LeadsIn (g : FlatGrammar) (rows : List (List Item)) : (i x : ℕ) → Item → Type 0 where
  Last : {i x : ℕ} {item : Item} → IsLeoIn g rows i x item → IsNotLeoIn g rows item.origin (lhs_of g item.rule) → LeadsIn g rows i x (advanced item)
  On : {i x : ℕ} {item topmost : Item} → IsLeoIn g rows i x item → LeadsIn g rows item.origin (lhs_of g item.rule) topmost → LeadsIn g rows i x topmost

-- the step of a pair, if it is one
abbrev pub IsStepIn : FlatGrammar → List (List Item) → (i x : ℕ) → Option Item → Type 0
IsStepIn g rows i x (Some step) = (item : Item) × IsLeoIn g rows i x item × (step ≡ advanced item)
IsStepIn g rows i x None = IsNotLeoIn g rows i x

-- the set and the symbol that a completed item leads over
abbrev pub pair_of : FlatGrammar → Item → Pair
pair_of g item = record { set = item.origin; symbol = lhs_of g item.rule }

-- each pair is noted once, and what was noted of it is where it leads
pub record IsMemo (g : FlatGrammar) (rows : List (List Item)) (notes : List Note) : Type 0 where
  pub once : AllPairs (λ x y. x ≢ y) (pairs_of notes)
  pub leads : (pair : Pair) (top : Item) → noted notes pair ≡ Some top → (pair.set < length rows) × LeadsIn g rows pair.set pair.symbol top

-- the notes that there were, and maybe more that are right
pub record NotesMore (g : FlatGrammar) (rows : List (List Item)) (old new : List Note) : Type 0 where
  pub is : IsMemo g rows new
  pub more : List Note
  pub begins : new ≡ old ++ more

-- before the dot of an item that begins in its own set stand nullable symbols alone
abbrev pub AreNulled : FlatGrammar → List (List Item) → Type 0
AreNulled g rows = (i : ℕ) (item : Item) → Contains (row_at rows i) item → item.origin ≡ i → (d x : ℕ) → d < item.dot → part_of g item.rule d ≡ Some x → IsNullable g x
