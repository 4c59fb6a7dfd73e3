-- The order in which the derivations of one slot and span are listed. The higher rank of the root's rule comes
-- first, then the lower rule number, then the tree without a last separator. Then the child lists are compared
-- from their ends: the later start of the last child comes first, a nulled last child before all others where the
-- rule ranks nulled ones high and after them else; then the lists without their last children; then those.
-- Source: this order is our own; null-ranking and rank are adverbs of the Marpa SLIF DSL manual.
use Rattle.std.specs.Prelude.{◌≡◌, ℕ, Bool, true, false, ℤ, pos}
use Rattle.std.specs.declared.cmp.Ordering.{Ordering}
use Rattle.std.specs.declared.cmp.Ordering.TheVariants.{Less, Equal, Greater}
use Rattle.std.specs.Cmp.{IsTotalOrder}
use Rattle.std.specs.Ordering.{ordering_then, nat_cmp, int_cmp, bool_cmp}
pub use Rattle.grammar_model.specs.declared.Ranking.{Ranking}
pub use Rattle.grammar_model.specs.declared.Ranking.TheVariants.{None as NoRanks, Rule as RuleRanks, High as HighRanks}
use Rattle.grammar_model.specs.Grammar.{Grammar, WrittenRule, rule_at, rank_of, null_high_of, has_trailing}
use Rattle.grammar_model.specs.Trees.{Tree, Children, Leaf, Nulled, Node, NoChild, Child, child_count, from_of}

abbrev pub rank_by : Ranking → WrittenRule → ℤ
rank_by NoRanks rule = pos 0
rank_by RuleRanks rule = rank_of rule
rank_by HighRanks rule = rank_of rule

-- how rules compare, given the numbers of their nodes' children, and which rules put a nulled last child first
pub record RuleOrder : Type 0 where
  pub cmp : (i m j n : ℕ) → Ordering
  pub null_high : ℕ → Bool

-- it is a total order of rules with the numbers of their nodes' children, and tells rules apart
pub record IsRuleOrder (order : RuleOrder) : Type 0 where
  pub total : IsTotalOrder (λ (x y : ℕ × ℕ). order.cmp x.0 x.1 y.0 y.1)
  pub same_rule : (i m j n : ℕ) → order.cmp i m j n ≡ Equal → i ≡ j

-- the higher rank, then the lower number, then the node without a last separator
abbrev pub rule_cmp : Grammar → Ranking → (i m j n : ℕ) → Ordering
rule_cmp g ranking i m j n =
    ordering_then (int_cmp (rank_by ranking (rule_at g j)) (rank_by ranking (rule_at g i)))
    (ordering_then (nat_cmp i j) (bool_cmp (has_trailing (rule_at g i) m) (has_trailing (rule_at g j) n)))

abbrev pub rank_order : Grammar → Ranking → RuleOrder
rank_order g ranking = record { cmp = rule_cmp g ranking; null_high = λ i. null_high_of (rule_at g i) }

-- where a nulled last child stands among the others, which stand at 1
abbrev pub null_place : Bool → Tree → ℕ
null_place high (Leaf symbol from to) = 1
null_place true (Nulled symbol at) = 0
null_place false (Nulled symbol at) = 2
null_place high (Node rule children from to) = 1

-- the last children by their starts: the later one first, but for nulled ones
abbrev pub start_cmp : Bool → Tree → Tree → Ordering
start_cmp high t u = ordering_then (nat_cmp (null_place high t) (null_place high u)) (nat_cmp (from_of u) (from_of t))

-- two trees of one slot and span are two nodes, or are the same
abbrev mutual
  pub tree_cmp : RuleOrder → Tree → Tree → Ordering
  tree_cmp order (Node i children from to) (Node j others from' to') =
      ordering_then (order.cmp i (child_count children) j (child_count others)) (children_cmp order (order.null_high i) children others)
  tree_cmp order (Node i children from to) u = Less
  tree_cmp order t (Node j others from' to') = Greater
  tree_cmp order t u = Equal

  pub children_cmp : RuleOrder → Bool → Children → Children → Ordering
  children_cmp order high NoChild NoChild = Equal
  children_cmp order high NoChild (Child prefix last) = Less
  children_cmp order high (Child prefix last) NoChild = Greater
  children_cmp order high (Child prefix last) (Child prefix' last') =
      ordering_then (start_cmp high last last') (ordering_then (children_cmp order high prefix prefix') (tree_cmp order last last'))

abbrev pub Before : RuleOrder → Tree → Tree → Type 0
Before order t u = tree_cmp order t u ≡ Less
