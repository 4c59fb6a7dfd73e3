-- The links between items, and what they are counted by.
use Rattle.std.specs.Prelude.{◌≡◌, ℕ, ◌+◌, ◌*◌, ◌<◌, ◌≤◌, Some}
use Rattle.recognizer_model.specs.declared.Item.{Item}
use Rattle.recognizer_model.specs.declared.Pair.{Pair}
use Rattle.grammar_model.specs.Trees.{Tree, Children, Leaf, Nulled, Node, NoChild, Child, child_count}
use Rattle.recognizer_model.specs.Flat.{FlatGrammar, IsRule, lhs_of, IsNullable}
use Rattle.grammar_model.specs.Derives.{Edges}
use Rattle.recognizer_model.specs.Items.{after, IsWhole}
use Rattle.recognizer_model.specs.Leo.{IsLeo, InReduced, IsNotLeo, LeadsTo}

abbrev mutual
  -- at least the choices of rules and splits that a derivation makes
  pub choices : Tree → ℕ
  choices (Leaf symbol from to) = 1
  choices (Nulled symbol at) = 1
  choices (Node rule children from to) = 4 + 3 * child_count children + choices_among children

  pub choices_among : Children → ℕ
  choices_among NoChild = 0
  choices_among (Child prefix last) = choices_among prefix + choices last

-- the ways in which items lead to the items of a set
pub data Link : Type 0 where
  Predicts : (item : Item) (rule : ℕ) → Link
  Skips : (item : Item) → Link
  Scans : (item : Item) (from : ℕ) → Link
  Completes : (whole item : Item) → Link
  Leaps : (whole : Item) → Link

pub record PlacedLink : Type 0 where
  pub place : ℕ
  pub link : Link

abbrev pub IsCompleted : (g : FlatGrammar) (E : Edges) (top place : ℕ) → Item → Type 0
IsCompleted g E top place whole = InReduced g E top place whole × IsWhole g whole × (whole.origin < place)

abbrev pub IsLink : (g : FlatGrammar) (E : Edges) (top place : ℕ) → Link → Type 0
IsLink g E top place (Predicts item r) = (x : ℕ) × InReduced g E top place item × (after g item ≡ Some x) × IsRule g r × (lhs_of g r ≡ x)
IsLink g E top place (Skips item) = (x : ℕ) × InReduced g E top place item × (after g item ≡ Some x) × IsNullable g x
IsLink g E top place (Scans item from) = (x : ℕ) × InReduced g E top from item × (after g item ≡ Some x) × E x from place
IsLink g E top place (Completes whole item) = IsCompleted g E top place whole × IsNotLeo g E top whole.origin (lhs_of g whole.rule) ×
    InReduced g E top whole.origin item × (after g item ≡ Some (lhs_of g whole.rule))
IsLink g E top place (Leaps whole) = IsCompleted g E top place whole × ((topmost : Item) × LeadsTo g E top whole.origin (lhs_of g whole.rule) topmost)

-- a link of the set of a place after the first
abbrev pub IsPlacedLink : (g : FlatGrammar) (E : Edges) (top place : ℕ) → PlacedLink → Type 0
IsPlacedLink g E top place p = (0 < p.place) × (p.place ≤ place) × IsLink g E top p.place p.link

-- the symbol has a Leo item in the set
abbrev pub IsLeoPair : (g : FlatGrammar) (E : Edges) (top place : ℕ) → Pair → Type 0
IsLeoPair g E top place pair = (pair.set ≤ place) × ((item : Item) × IsLeo g E top pair.set pair.symbol item)
