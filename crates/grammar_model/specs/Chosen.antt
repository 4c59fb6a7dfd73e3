-- Chosen derivations. The best rank of a slot over a span is the highest rank of a rule at the root of a tree of the slot over the
-- span, whether that tree is chosen or not. Under `high` a derivation is chosen where each of its nodes has a rule of the best rank in
-- its place; under the other rankings every derivation is chosen.
-- Source: the Marpa::R2 SLIF documentation (the ranking method high_rule_only). There the choices of a choicepoint are compared, those
-- that split its span differently among them; here ranks are compared only over one slot and one span, and never decide between splits.
use Rattle.std.specs.Prelude.{◌≡◌, ℕ, ⊤, ◌↔◌, ◌≤ℤ◌, List, Contains}
use Rattle.std.specs.List.Sorted.{IsStrictlySortedBy}
use Rattle.grammar_model.specs.Grammar.{WrittenRule, Grammar, Slot, rule_at, rank_of, child_slot}
use Rattle.grammar_model.specs.Trees.{Tree, Children, Leaf, Nulled, Node, NoChild, Child, child_count}
use Rattle.grammar_model.specs.Derives.{Edges, Edge, Held, Derives}
use Rattle.grammar_model.specs.Order.{Ranking, NoRanks, RuleRanks, HighRanks, rank_order, tree_cmp}

-- no tree of the slot over the span has a rule of a higher rank at its root
abbrev pub IsBest : Grammar → Edges → Slot → (p q rule : ℕ) → Type 0
IsBest g edge slot p q rule = (other : ℕ) (children : Children) → Derives g edge slot p q (Node other children p q) → rank_of (rule_at g other) ≤ℤ rank_of (rule_at g rule)

abbrev mutual
  -- each node has a rule of the best rank in its place: the root in the slot, and a child in its child slot
  pub AreBest : Grammar → Edges → Slot → Tree → Type 0
  AreBest g edge slot (Leaf symbol from to) = ⊤
  AreBest g edge slot (Nulled symbol at) = ⊤
  AreBest g edge slot (Node rule children from to) = IsBest g edge slot from to rule × AreBestPrefix g edge (rule_at g rule) children

  -- the same of the first children of a rule
  pub AreBestPrefix : Grammar → Edges → WrittenRule → Children → Type 0
  AreBestPrefix g edge rule NoChild = ⊤
  AreBestPrefix g edge rule (Child prefix last) = AreBestPrefix g edge rule prefix × AreBest g edge (child_slot rule (child_count prefix)) last

-- the ranking chooses this derivation of the slot
abbrev pub IsChosen : Ranking → Grammar → Edges → Slot → Tree → Type 0
IsChosen NoRanks g edge slot tree = ⊤
IsChosen RuleRanks g edge slot tree = ⊤
IsChosen HighRanks g edge slot tree = AreBest g edge slot tree

-- the list of the chosen derivations, strictly sorted by their order
pub record AreChosen (g : Grammar) (edge : Edges) (ranking : Ranking) (slot : Slot) (p q : ℕ) (trees : List Tree) : Type 0 where
  pub sorted : IsStrictlySortedBy (tree_cmp (rank_order g ranking)) trees
  pub each : (t : Tree) → Contains trees t ↔ (Derives g edge slot p q t × IsChosen ranking g edge slot t)

-- there is at most one such list
abbrev pub ChosenListIsUnique : Type 0
ChosenListIsUnique = (g : Grammar) (edges : List Edge) (ranking : Ranking) (slot : Slot) (p q : ℕ) (ts us : List Tree) →
    AreChosen g (Held edges) ranking slot p q ts → AreChosen g (Held edges) ranking slot p q us → ts ≡ us
