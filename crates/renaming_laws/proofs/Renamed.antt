-- Flat grammars that differ in the numbers of their symbols and rules: a name there and back for each, and the edges by the same.
use Rattle.std.proofs.Common.{◌≡◌, ◌∙◌, ℕ, ◌<◌, length, map, slice_get, Some, ap, sym}
use Rattle.finite_sets.proofs.Lists.{get_map}
use Rattle.std.proofs.lemmas.List.{length-map}
use Rattle.grammar_model.specs.Derives.{Edges}
use Rattle.recognizer_model.specs.declared.Item.{Item}
use Rattle.recognizer_model.specs.Flat.{FlatGrammar, IsRule, lhs_of, rhs_of, part_of, source_of, IsNullable}
use Rattle.recognizer_model.specs.Invariant.{IsFlat}
use Rattle.recognizer_model.specs.Items.{IsWhole}

-- one way
pub record Names (f g : FlatGrammar) (E F : Edges) (symbol rule : ℕ → ℕ) : Type 0 where
  pub stands : (x : ℕ) → x < length f.symbols → symbol x < length g.symbols
  pub marked : (x : ℕ) → IsNullable f x → IsNullable g (symbol x)
  pub is_rule : (r : ℕ) → IsRule f r → IsRule g (rule r)
  pub left : (r : ℕ) → IsRule f r → lhs_of g (rule r) ≡ symbol (lhs_of f r)
  pub right : (r : ℕ) → IsRule f r → rhs_of g (rule r) ≡ map symbol (rhs_of f r)
  pub source : (r : ℕ) → IsRule f r → source_of g (rule r) ≡ source_of f r
  pub edge : (x p q : ℕ) → E x p q → F (symbol x) p q

-- both ways
pub record Renamed (f g : FlatGrammar) (E F : Edges) : Type 0 where
  pub flat : IsFlat f
  pub flat_back : IsFlat g
  pub symbol : ℕ → ℕ
  pub rule : ℕ → ℕ
  pub symbol_back : ℕ → ℕ
  pub rule_back : ℕ → ℕ
  pub there : Names f g E F symbol rule
  pub back : Names g f F E symbol_back rule_back
  pub same_symbol : (x : ℕ) → x < length f.symbols → symbol_back (symbol x) ≡ x
  pub same_rule : (r : ℕ) → IsRule f r → rule_back (rule r) ≡ r
  pub symbol_again : (x : ℕ) → x < length g.symbols → symbol (symbol_back x) ≡ x
  pub rule_again : (r : ℕ) → IsRule g r → rule (rule_back r) ≡ r

abbrev pub flip : {f g : FlatGrammar} {E F : Edges} → Renamed f g E F → Renamed g f F E
flip ren = record {
  flat = ren.flat_back;
  flat_back = ren.flat;
  symbol = ren.symbol_back;
  rule = ren.rule_back;
  symbol_back = ren.symbol;
  rule_back = ren.rule;
  there = ren.back;
  back = ren.there;
  same_symbol = ren.symbol_again;
  same_rule = ren.rule_again;
  symbol_again = ren.same_symbol;
  rule_again = ren.same_rule;
}

-- the item with the other name of its rule
abbrev pub renamed : (ℕ → ℕ) → Item → Item
renamed rule item = record { rule = rule item.rule; dot = item.dot; origin = item.origin }

pub named_again : (item : Item) (r : ℕ) → r ≡ item.rule → record { rule = r; dot = item.dot; origin = item.origin } ≡ item
named_again item r e = ap (λ (s : ℕ). record { rule = s; dot = item.dot; origin = item.origin }) e

module _ {f g : FlatGrammar} {E F : Edges} {symbol rule : ℕ → ℕ} (names : Names f g E F symbol rule) where
  pub part_there : (r d x : ℕ) → IsRule f r → part_of f r d ≡ Some x → part_of g (rule r) d ≡ Some (symbol x)
  part_there r d x is e = ap (λ xs. slice_get xs d) (names.right r is) ∙ get_map symbol (rhs_of f r) d x e

  pub length_there : (r : ℕ) → IsRule f r → length (rhs_of g (rule r)) ≡ length (rhs_of f r)
  length_there r is = ap length (names.right r is) ∙ length-map (rhs_of f r) symbol

  pub whole_there : (item : Item) → IsRule f item.rule → IsWhole f item → IsWhole g (renamed rule item)
  whole_there item is whole = whole ∙ sym (length_there item.rule is)

  pub left_there : (r x : ℕ) → IsRule f r → lhs_of f r ≡ x → lhs_of g (rule r) ≡ symbol x
  left_there r x is e = names.left r is ∙ ap symbol e
