-- Items and their sets. Source: Earley 1970.
use Rattle.std.specs.Prelude.{◌≡◌, ℕ, suc, ◌<◌, length, Option, Some}
use Rattle.recognizer_model.specs.declared.Item.{Item}
use Rattle.recognizer_model.specs.Flat.{FlatGrammar, IsRule, lhs_of, rhs_of, part_of, IsNullable}
use Rattle.grammar_model.specs.Derives.{Edges}

-- the symbol after the dot
abbrev pub after : FlatGrammar → Item → Option ℕ
after g item = part_of g item.rule item.dot

-- the dot is at the end
abbrev pub IsWhole : FlatGrammar → Item → Type 0
IsWhole g item = item.dot ≡ length (rhs_of g item.rule)

abbrev pub first_item : (rule origin : ℕ) → Item
first_item r i = record { rule = r; dot = 0; origin = i }

abbrev pub advanced : Item → Item
advanced item = record item { dot = suc item.dot }

-- the items of each set
pub data InSet (g : FlatGrammar) (E : Edges) (top : ℕ) : (place : ℕ) → Item → Type 0 where
  Start : InSet g E top 0 (first_item top 0)
  Predict : {j x r : ℕ} {item : Item} → InSet g E top j item → after g item ≡ Some x →
      IsRule g r → lhs_of g r ≡ x → InSet g E top j (first_item r j)
  Skip : {j x : ℕ} {item : Item} → InSet g E top j item → after g item ≡ Some x →
      IsNullable g x → InSet g E top j (advanced item)
  Scan : {i j x : ℕ} {item : Item} → InSet g E top i item → after g item ≡ Some x →
      E x i j → InSet g E top j (advanced item)
  Complete : {j : ℕ} {whole item : Item} → InSet g E top j whole → IsWhole g whole → whole.origin < j →
      InSet g E top whole.origin item → after g item ≡ Some (lhs_of g whole.rule) →
      InSet g E top j (advanced item)
