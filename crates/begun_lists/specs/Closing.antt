-- What follows from an item in the same set, by rows.
use Rattle.std.specs.Prelude.{◌≡◌, ◌≢◌, ℕ, ◌<◌, List, Some, Contains, ◌⊎◌}
use Rattle.recognizer_model.specs.declared.Item.{Item}
use Rattle.recognizer_model.specs.Flat.{FlatGrammar, IsRule, lhs_of, IsNullable}
use Rattle.recognizer_model.specs.Items.{after, IsWhole, first_item, advanced}
use Rattle.item_rows.specs.Rows.{row_at}
use Rattle.leo_items.specs.ByRows.{IsNotLeoIn, LeadsIn}
pub use Rattle.leo_items.specs.Closed.{IsReached, Seed, Step, Adds, Grows}

-- an item that waits for the symbol, with its dot advanced
abbrev pub IsAdvancedOver : FlatGrammar → List Item → (symbol : ℕ) → Item → Type 0
IsAdvancedOver g items x other = (w : Item) × Contains items w × (after g w ≡ Some x) × (other ≡ advanced w)

-- an item that waits for the symbol, skipped over it
abbrev pub IsSkipped : FlatGrammar → Item → (symbol : ℕ) → Item → Type 0
IsSkipped g item x other = IsNullable g x × (other ≡ advanced item)

-- what the completion of a symbol that began in an earlier set leads to
abbrev pub IsDone : FlatGrammar → (rows : List (List Item)) → (i x : ℕ) → Item → Type 0
IsDone g rows i x other = (IsNotLeoIn g rows i x × IsAdvancedOver g (row_at rows i) x other) ⊎ LeadsIn g rows i x other

-- one item leads to another in the same set
pub data Follows (g : FlatGrammar) (rows : List (List Item)) (earleme : ℕ) (item : Item) : Item → Type 0 where
  Predicts : {x r : ℕ} → after g item ≡ Some x → IsRule g r → lhs_of g r ≡ x → Follows g rows earleme item (first_item r earleme)
  Skips : {x : ℕ} → after g item ≡ Some x → IsNullable g x → Follows g rows earleme item (advanced item)
  Completes : {waiting : Item} → IsWhole g item → item.origin < earleme → IsNotLeoIn g rows item.origin (lhs_of g item.rule) →
      Contains (row_at rows item.origin) waiting → after g waiting ≡ Some (lhs_of g item.rule) → Follows g rows earleme item (advanced waiting)
  Leaps : {topmost : Item} → IsWhole g item → item.origin < earleme → LeadsIn g rows item.origin (lhs_of g item.rule) topmost → Follows g rows earleme item topmost

-- what follows from an item, without the rules that begin
abbrev pub GoesOn : FlatGrammar → (rows : List (List Item)) → (earleme : ℕ) → Item → Item → Type 0
GoesOn g rows earleme item other = Follows g rows earleme item other × (other.dot ≢ 0)
