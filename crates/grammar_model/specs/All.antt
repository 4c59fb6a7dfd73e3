-- The list of all derivations: strictly sorted by their order, and of exactly the derivations of a slot over a
-- span. It is unique where it exists.
use Rattle.std.specs.Prelude.{◌≡◌, ℕ, ◌⊎◌, ◌↔◌, List, Contains}
use Rattle.std.specs.List.Sorted.{IsStrictlySortedBy}
use Rattle.grammar_model.specs.Grammar.{Grammar, Slot}
use Rattle.grammar_model.specs.Trees.{Tree}
use Rattle.grammar_model.specs.Derives.{Edges, Edge, Held, Derives}
use Rattle.grammar_model.specs.Order.{Ranking, RuleOrder, rank_order, tree_cmp, Before}

pub record IsAll (g : Grammar) (edge : Edges) (order : RuleOrder) (slot : Slot) (p q : ℕ) (trees : List Tree) : Type 0 where
  pub sorted : IsStrictlySortedBy (tree_cmp order) trees
  pub each : (t : Tree) → Contains trees t ↔ Derives g edge slot p q t

-- Of two derivations of one slot and span either they are the same, or one is before the other. None is before
-- itself, and of two not each is before the other: so of two different ones exactly one is before the other.
pub record IsOrdered (g : Grammar) (edge : Edges) (order : RuleOrder) (slot : Slot) (p q : ℕ) : Type 0 where
  pub compares : (t u : Tree) → Derives g edge slot p q t → Derives g edge slot p q u → (t ≡ u) ⊎ Before order t u ⊎ Before order u t
  pub irreflexive : (t : Tree) → Before order t t → ⊥
  pub asymmetric : (t u : Tree) → Before order t u → Before order u t → ⊥
  pub transitive : (t u v : Tree) → Before order t u → Before order u v → Before order t v

abbrev pub DerivationsAreOrdered : Type 0
DerivationsAreOrdered = (g : Grammar) (edges : List Edge) (ranking : Ranking) (slot : Slot) (p q : ℕ) → IsOrdered g (Held edges) (rank_order g ranking) slot p q

abbrev pub ListIsUnique : Type 0
ListIsUnique = (g : Grammar) (edges : List Edge) (ranking : Ranking) (slot : Slot) (p q : ℕ) (ts us : List Tree) →
    IsAll g (Held edges) (rank_order g ranking) slot p q ts → IsAll g (Held edges) (rank_order g ranking) slot p q us → ts ≡ us
