-- Comparing trees is a total order, up to ties.
use Rattle.std.proofs.Common.{◌≡◌, ℕ, Bool, refl, subst}
use Rattle.std.specs.declared.cmp.Ordering.{Ordering}
use Rattle.std.specs.declared.cmp.Ordering.TheVariants.{Less, Equal, Greater}
use Rattle.std.specs.Ordering.{ordering_reverse}
use Rattle.std.specs.Cmp.{IsTotalOrder, nat_cmp_total, int_cmp_total, bool_cmp_total, then_total, on_total, back_total}
use Rattle.finite_sets.proofs.Clauses.{nat_cmp-Equal, then_equal}
use Rattle.grammar_model.specs.Grammar.{Grammar, rule_at, has_trailing}
use Rattle.grammar_model.specs.Trees.{Tree, Children, Leaf, Nulled, Node, NoChild, Child, child_count, from_of}
use Rattle.grammar_model.specs.Order.{Ranking, RuleOrder, IsRuleOrder, rank_by, rule_cmp, rank_order, null_place, start_cmp, tree_cmp, children_cmp}
use Rattle.grammar_model.proofs.Chains.{Chains, chains_of, Chains-then, reverse-then, total_from_chains}

-- a rule with the number of its children
abbrev pub Made : Type 0
Made = ℕ × ℕ

pub rules_total : (g : Grammar) (ranking : Ranking) → IsTotalOrder (λ (x y : Made). rule_cmp g ranking x.0 x.1 y.0 y.1)
rules_total g ranking =
    then_total (on_total (λ (x : Made). rank_by ranking (rule_at g x.0)) (back_total int_cmp_total))
    (then_total (on_total (λ (x : Made). x.0) nat_cmp_total) (on_total (λ (x : Made). has_trailing (rule_at g x.0) x.1) bool_cmp_total))

pub start_total : (high : Bool) → IsTotalOrder (start_cmp high)
start_total high = then_total (on_total (null_place high) nat_cmp_total) (on_total from_of (back_total nat_cmp_total))

pub rule_cmp-Equal : (g : Grammar) (ranking : Ranking) (i m j n : ℕ) → rule_cmp g ranking i m j n ≡ Equal → i ≡ j
rule_cmp-Equal g ranking i m j n e = nat_cmp-Equal i j (then_equal _ _ (then_equal _ _ e).1).0

pub ranks_order : (g : Grammar) (ranking : Ranking) → IsRuleOrder (rank_order g ranking)
ranks_order g ranking = record { total = rules_total g ranking; same_rule = rule_cmp-Equal g ranking }

module _ (order : RuleOrder) (laws : IsRuleOrder order) where
  abbrev high : ℕ → Bool
  high i = order.null_high i

  mutual
    tree_turned : (t u : Tree) → tree_cmp order t u ≡ ordering_reverse (tree_cmp order u t)
    tree_turned (Leaf s a b) (Leaf s' a' b') = refl
    tree_turned (Leaf s a b) (Nulled s' a') = refl
    tree_turned (Leaf s a b) (Node j ds a' b') = refl
    tree_turned (Nulled s a) (Leaf s' a' b') = refl
    tree_turned (Nulled s a) (Nulled s' a') = refl
    tree_turned (Nulled s a) (Node j ds a' b') = refl
    tree_turned (Node i cs a b) (Leaf s' a' b') = refl
    tree_turned (Node i cs a b) (Nulled s' a') = refl
    tree_turned (Node i cs a b) (Node j ds a' b') =
        reverse-then _ _ _ _ (laws.total.antisymm (i, child_count cs) (j, child_count ds))
        (λ e. subst (λ k. children_cmp order (high i) cs ds ≡ ordering_reverse (children_cmp order (high k) ds cs)) (laws.same_rule i _ j _ e) (children_turned (high i) cs ds))

    children_turned : (high : Bool) (cs ds : Children) → children_cmp order high cs ds ≡ ordering_reverse (children_cmp order high ds cs)
    children_turned high NoChild NoChild = refl
    children_turned high NoChild (Child ds u) = refl
    children_turned high (Child cs t) NoChild = refl
    children_turned high (Child cs t) (Child ds u) =
        reverse-then _ _ _ _ ((start_total high).antisymm t u)
        (λ e. reverse-then _ _ _ _ (children_turned high cs ds) (λ e'. tree_turned t u))

  before_last : (o : Ordering) → Chains o Less Less
  before_last Less = refl
  before_last Equal = refl
  before_last Greater = tt

  after_first : (o : Ordering) → Chains Greater o Greater
  after_first Less = tt
  after_first Equal = refl
  after_first Greater = refl

  after_last : (o : Ordering) → Chains o Greater Greater
  after_last Less = tt
  after_last Equal = refl
  after_last Greater = refl

  before_first : (o : Ordering) → Chains Less o Less
  before_first Less = refl
  before_first Equal = refl
  before_first Greater = tt

  mutual
    tree_chain : (t u v : Tree) → Chains (tree_cmp order t u) (tree_cmp order u v) (tree_cmp order t v)
    tree_chain (Node i cs a b) (Node j ds a' b') (Node k es a'' b'') =
        Chains-then _ _ _ _ _ _ (chains_of laws.total (i, child_count cs) (j, child_count ds) (k, child_count es))
        (λ e e'. subst (λ h. Chains (children_cmp order (high i) cs ds) (children_cmp order (high h) ds es) (children_cmp order (high i) cs es)) (laws.same_rule i _ j _ e) (children_chain (high i) cs ds es))
    tree_chain (Node i cs a b) (Node j ds a' b') v = before_last (tree_cmp order (Node i cs a b) (Node j ds a' b'))
    tree_chain (Node i cs a b) u (Node k es a'' b'') = tt
    tree_chain (Node i cs a b) u v = refl
    tree_chain t (Node j ds a' b') (Node k es a'' b'') = after_first (tree_cmp order (Node j ds a' b') (Node k es a'' b''))
    tree_chain t (Node j ds a' b') v = tt
    tree_chain t u (Node k es a'' b'') = refl
    tree_chain t u v = refl

    children_chain : (h : Bool) (cs ds es : Children) → Chains (children_cmp order h cs ds) (children_cmp order h ds es) (children_cmp order h cs es)
    children_chain h (Child cs t) (Child ds u) (Child es v) =
        Chains-then _ _ _ _ _ _ (chains_of (start_total h) t u v)
        (λ e e'. Chains-then _ _ _ _ _ _ (children_chain h cs ds es) (λ f f'. tree_chain t u v))
    children_chain h (Child cs t) (Child ds u) NoChild = after_last (children_cmp order h (Child cs t) (Child ds u))
    children_chain h (Child cs t) NoChild (Child es v) = tt
    children_chain h (Child cs t) NoChild NoChild = refl
    children_chain h NoChild (Child ds u) (Child es v) = before_first (children_cmp order h (Child ds u) (Child es v))
    children_chain h NoChild (Child ds u) NoChild = tt
    children_chain h NoChild NoChild (Child es v) = refl
    children_chain h NoChild NoChild NoChild = refl

  pub trees_total : IsTotalOrder (tree_cmp order)
  trees_total = total_from_chains tree_turned tree_chain

  pub children_total : (h : Bool) → IsTotalOrder (children_cmp order h)
  children_total h = total_from_chains (children_turned h) (children_chain h)
