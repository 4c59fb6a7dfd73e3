-- Rows of items, place by place; and lists that several rows share.
use Rattle.std.specs.Prelude.{◌≡◌, ℕ, ◌<◌, ◌++◌, ◌↔◌, List, [], ◌∷◌, length, slice_index_or, Contains}
use Rattle.recognizer_model.specs.declared.Item.{Item}
use Rattle.recognizer_model.specs.Flat.{FlatGrammar}

-- rows of items of a flat grammar, the lists that they share, and the numbers of their shapes, row by row
pub record ItemRows : Type 0 where
  pub flat : FlatGrammar
  pub sets : List (List Item)
  pub shared : List (List Item)
  pub kinds : List ℕ

abbrev pub row_at : List (List Item) → ℕ → List Item
row_at rows i = slice_index_or rows i []

abbrev pub shared_at : List (List Item) → ℕ → List Item
shared_at lists i = slice_index_or lists i []

abbrev pub kind_at : List ℕ → ℕ → ℕ
kind_at kinds i = slice_index_or kinds i 0

-- an item of the list, begun at the place
abbrev pub IsBegunAt : List Item → ℕ → Item → Type 0
IsBegunAt list earleme item = (item.origin ≡ earleme) × Contains list (record item { origin = 0 })

-- an item of the dotted rule stands in the row
abbrev pub HasDotted : List Item → (rule dot : ℕ) → Type 0
HasDotted row rule dot = (item : Item) × Contains row item × (item.rule ≡ rule) × (item.dot ≡ dot)

-- the rows have the same dotted rules
abbrev pub AreAlike : (row other : List Item) → Type 0
AreAlike row other = (rule dot : ℕ) → HasDotted row rule dot ↔ HasDotted other rule dot

-- rows with one number of a shape are alike
pub record AreOfKinds (rows : ItemRows) : Type 0 where
  pub all : length rows.kinds ≡ length rows.sets
  pub alike : (i j : ℕ) → i < length rows.sets → j < length rows.sets → kind_at rows.kinds i ≡ kind_at rows.kinds j → AreAlike (row_at rows.sets i) (row_at rows.sets j)

-- one row more, of a shape
abbrev pub with_row : ItemRows → List Item → (kind : ℕ) → ItemRows
with_row rows row kind = record rows { sets = rows.sets ++ row ∷ []; kinds = rows.kinds ++ kind ∷ [] }
