-- Derivations. A tree is a derivation of a slot over the places p to q where it is a token edge of a terminal, a
-- nulled leaf of a nullable slot, or a node of a rule that fits the slot, whose children abut from p to q and are
-- derivations of the rule's child slots. The derivation of a rule's first children is what an Earley item with
-- its dot after them stands for.
-- Sources: context-free derivations; Earley 1970 (items); the Libmarpa manual (nulled symbols are one leaf).
use Rattle.std.specs.Prelude.{◌≡◌, ℕ, suc, ◌<◌, List, length, slice_get, Some, Contains}
use Rattle.grammar_model.specs.Grammar.{WrittenRule, Grammar, Slot, rule_at, IsTerminal, Fits, child_slot, IsChildCount}
use Rattle.grammar_model.specs.Trees.{Tree, Children, Leaf, Nulled, Node, NoChild, Child, child_count}
use Rattle.grammar_model.specs.Analysis.{IsNullable}
pub use Rattle.grammar_model.specs.declared.Edge.{Edge}

-- which terminals span which places: of the terminal s from p to q, edge s p q
abbrev pub Edges : Type 1
Edges = (symbol from to : ℕ) → Type 0

-- the edges of a list
abbrev pub Held : List Edge → Edges
Held edges symbol from to = Contains edges (record { symbol = symbol; from = from; to = to })

-- the edges of length one that lay these terminals one after another from place 0
abbrev pub Line : List ℕ → Edges
Line symbols symbol from to = (slice_get symbols from ≡ Some symbol) × (to ≡ suc from)

pub record IsLeaf (g : Grammar) (edge : Edges) (slot : Slot) (p q symbol from to : ℕ) : Type 0 where
  pub symbol_is : symbol ≡ slot.symbol
  pub from_is : from ≡ p
  pub to_is : to ≡ q
  pub terminal : IsTerminal g symbol
  pub held : edge symbol from to

pub record IsNulled (g : Grammar) (slot : Slot) (p q symbol at : ℕ) : Type 0 where
  pub symbol_is : symbol ≡ slot.symbol
  pub from_is : at ≡ p
  pub to_is : at ≡ q
  pub nullable : IsNullable g slot

pub record IsNode (g : Grammar) (slot : Slot) (p q i count from to : ℕ) (children : Type 0) : Type 0 where
  pub from_is : from ≡ p
  pub to_is : to ≡ q
  pub spans : p < q
  pub in_range : i < length g.rules
  pub fits : Fits (rule_at g i) slot
  pub complete : IsChildCount (rule_at g i) count
  pub prefix : children

abbrev mutual
  pub Derives : Grammar → Edges → Slot → ℕ → ℕ → Tree → Type 0
  Derives g edge slot p q (Leaf symbol from to) = IsLeaf g edge slot p q symbol from to
  Derives g edge slot p q (Nulled symbol at) = IsNulled g slot p q symbol at
  Derives g edge slot p q (Node i children from to) =
      IsNode g slot p q i (child_count children) from to (DerivesPrefix g edge (rule_at g i) p q children)

  -- the first children of a rule
  pub DerivesPrefix : Grammar → Edges → WrittenRule → ℕ → ℕ → Children → Type 0
  DerivesPrefix g edge rule p q NoChild = p ≡ q
  DerivesPrefix g edge rule p q (Child prefix last) =
      (r : ℕ) × DerivesPrefix g edge rule p r prefix × Derives g edge (child_slot rule (child_count prefix)) r q last
