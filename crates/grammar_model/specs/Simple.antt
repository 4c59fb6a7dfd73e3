-- The plain way to list the derivations of a simple grammar: no rule is a sequence, a statement has one group, ranks
-- are 0, and each rule has one terminal or two parts or more, so a part spans less than the whole. By the last part's
-- start, then the parts before it.
use Rattle.std.specs.Prelude.{◌≡◌, ℕ, zero, suc, ◌+◌, ◌<◌, ◌≤◌, Bool, not, ◌&&◌, ◌==◌, nat_lt, nat_le, if◌then◌else◌, List, [], ◌∷◌, ◌++◌, map, length, slice_index, ◌⊎◌, filter, IsTrue, pos}
use Rattle.std.specs.List.{list_any, flat_map}
use Rattle.grammar_model.specs.Grammar.{Grammar, Slot, WrittenRule, Plain, Sequence, lhs_of, level_of, rule_at, child_slot, IsTerminal}
use Rattle.grammar_model.specs.Trees.{Tree, Children, Leaf, Node, NoChild, Child}
use Rattle.grammar_model.specs.Derives.{Edges}
use Rattle.grammar_model.specs.Order.{Ranking, rank_order}
use Rattle.grammar_model.specs.All.{IsAll}

abbrev pub IsSimpleRule : Grammar → WrittenRule → Type 0
IsSimpleRule g (Plain r) = (r.groups ≡ 1) × (r.rank ≡ pos 0) × ((length r.rhs ≡ 1) × IsTerminal g (slice_index r.rhs 0) ⊎ (2 ≤ length r.rhs))
IsSimpleRule g (Sequence r) = ⊥

abbrev pub IsSimple : Grammar → Type 0
IsSimple g = (i : ℕ) → i < length g.rules → IsSimpleRule g (rule_at g i)

-- the edges that a test tells
abbrev pub Tested : (ℕ → ℕ → ℕ → Bool) → Edges
Tested test symbol from to = IsTrue (test symbol from to)

abbrev pub is_terminal : Grammar → ℕ → Bool
is_terminal g symbol = not (list_any (λ rule. lhs_of rule == symbol) g.rules)

abbrev pub fits : WrittenRule → Slot → Bool
fits rule slot = (lhs_of rule == slot.symbol) && nat_le slot.level (level_of rule)

-- the numbers below n
abbrev pub numbers : ℕ → List ℕ
numbers zero = []
numbers (suc n) = numbers n ++ n ∷ []

-- the places from q - 1 down to p
abbrev pub places : ℕ → ℕ → List ℕ
places p zero = []
places p (suc q) = if nat_le p q then q ∷ places p q else []

abbrev pub part_count : WrittenRule → ℕ
part_count (Plain r) = length r.rhs
part_count (Sequence r) = 0

-- what is listed for the slots below
abbrev pub Below : Type 0
Below = Slot → ℕ → ℕ → List Tree

-- the first n children
abbrev pub simple_prefixes : Below → WrittenRule → (n p q : ℕ) → List Children
simple_prefixes below rule zero p q = if p == q then NoChild ∷ [] else []
simple_prefixes below rule (suc n) p q =
    flat_map (λ r. flat_map (λ prefix. map (Child prefix) (below (child_slot rule n) r q)) (simple_prefixes below rule n p r)) (places (p + n) q)

abbrev pub simple_leaves : (ℕ → ℕ → ℕ → Bool) → Below
simple_leaves test slot p q = if test slot.symbol p q then Leaf slot.symbol p q ∷ [] else []

abbrev pub fitting : Grammar → Slot → List ℕ
fitting g slot = filter (λ i. fits (rule_at g i) slot) (numbers (length g.rules))

abbrev pub simple_nodes : Grammar → Below → Below
simple_nodes g below slot p q =
    flat_map (λ i. map (λ children. Node i children p q) (simple_prefixes below (rule_at g i) (part_count (rule_at g i)) p q)) (fitting g slot)

-- all derivations that span fewer than d places
abbrev pub simple_trees : Grammar → (ℕ → ℕ → ℕ → Bool) → ℕ → Below
simple_trees g test zero slot p q = []
simple_trees g test (suc d) slot p q =
    if nat_lt p q then (if is_terminal g slot.symbol then simple_leaves test slot p q else simple_nodes g (simple_trees g test d) slot p q) else []

abbrev pub ListsAllOfSimple : Type 0
ListsAllOfSimple = (g : Grammar) (test : ℕ → ℕ → ℕ → Bool) (ranking : Ranking) (slot : Slot) (p q d : ℕ) →
    IsSimple g → ((s i j : ℕ) → IsTrue (test s i j) → i < j) → q < p + d →
    IsAll g (Tested test) (rank_order g ranking) slot p q (simple_trees g test d slot p q)
