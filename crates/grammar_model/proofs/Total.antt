-- Of two derivations of one slot and span that the order does not tell apart, each is the other.
use Rattle.std.proofs.Common.{◌≡◌, ℕ, zero, suc, Bool, List, ◌⊎◌, inl, inr, refl, sym, ap, ◌∙◌, subst}
use Rattle.std.specs.declared.cmp.Ordering.{Ordering}
use Rattle.std.specs.declared.cmp.Ordering.TheVariants.{Less, Equal, Greater}
use Rattle.grammar_model.specs.Grammar.{Grammar, Slot, WrittenRule, rule_at, IsTerminal, child_slot}
use Rattle.grammar_model.specs.Trees.{Tree, Children, Leaf, Nulled, Node, NoChild, Child, child_count, from_of}
use Rattle.grammar_model.specs.Analysis.{IsNullable}
use Rattle.grammar_model.specs.Derives.{Edges, Derives, DerivesPrefix}
use Rattle.grammar_model.specs.Order.{IsRuleOrder, RuleOrder, start_cmp, tree_cmp, children_cmp, Before}
use Rattle.grammar_model.proofs.Sorting.{trees_total}
use Rattle.grammar_model.proofs.Lists.{one_sorted}
use Rattle.grammar_model.specs.All.{IsOrdered, IsAll}
use Rattle.std.specs.Ordering.{ordering_reverse}
use Rattle.std.specs.Cmp.{tied_itself}
use Rattle.finite_sets.proofs.Members.{among_from, contains_from}
use Rattle.finite_sets.proofs.Clauses.{nat_cmp-Equal, then_equal}

pub nullable_not_terminal : (g : Grammar) (slot : Slot) → IsNullable g slot → IsTerminal g slot.symbol → ⊥
nullable_not_terminal g slot (zero, n) t = n
nullable_not_terminal g slot (suc k, n) t = t n.0 n.1 n.2.0

module _ (g : Grammar) (edge : Edges) where
  pub from_is : (slot : Slot) (p q : ℕ) (t : Tree) → Derives g edge slot p q t → from_of t ≡ p
  from_is slot p q (Leaf s a b) d = d.from_is
  from_is slot p q (Nulled s a) d = d.from_is
  from_is slot p q (Node i cs a b) d = d.from_is

  module _ (order : RuleOrder) (laws : IsRuleOrder order) where
    mutual
      pub same_tree : (t u : Tree) (slot : Slot) (p q : ℕ) → tree_cmp order t u ≡ Equal → Derives g edge slot p q t → Derives g edge slot p q u → t ≡ u
      same_tree (Leaf s a b) (Leaf s' a' b') slot p q e d d' =
          λ k. Leaf ((d.symbol_is ∙ sym d'.symbol_is) k) ((d.from_is ∙ sym d'.from_is) k) ((d.to_is ∙ sym d'.to_is) k)
      same_tree (Leaf s a b) (Nulled s' a') slot p q e d d' = absurd (nullable_not_terminal g slot d'.nullable (subst (IsTerminal g) d.symbol_is d.terminal))
      same_tree (Leaf s a b) (Node j ds a' b') slot p q e d d' = cc
      same_tree (Nulled s a) (Leaf s' a' b') slot p q e d d' = absurd (nullable_not_terminal g slot d.nullable (subst (IsTerminal g) d'.symbol_is d'.terminal))
      same_tree (Nulled s a) (Nulled s' a') slot p q e d d' =
          λ k. Nulled ((d.symbol_is ∙ sym d'.symbol_is) k) ((d.from_is ∙ sym d'.from_is) k)
      same_tree (Nulled s a) (Node j ds a' b') slot p q e d d' = cc
      same_tree (Node i cs a b) (Leaf s' a' b') slot p q e d d' = cc
      same_tree (Node i cs a b) (Nulled s' a') slot p q e d d' = cc
      same_tree (Node i cs a b) (Node j ds a' b') slot p q e d d' =
          let both = then_equal (order.cmp i (child_count cs) j (child_count ds)) _ e in
          let i_is : i ≡ j = laws.same_rule i _ j _ both.0 in
          let prefix' : DerivesPrefix g edge (rule_at g i) p q ds = subst (λ n. DerivesPrefix g edge (rule_at g n) p q ds) (sym i_is) d'.prefix in
          let cs_is : cs ≡ ds = same_children cs ds _ (rule_at g i) p q both.1 d.prefix prefix' in
          λ k. Node (i_is k) (cs_is k) ((d.from_is ∙ sym d'.from_is) k) ((d.to_is ∙ sym d'.to_is) k)

      pub same_children : (cs ds : Children) (high : Bool) (rule : WrittenRule) (p q : ℕ) → children_cmp order high cs ds ≡ Equal → DerivesPrefix g edge rule p q cs → DerivesPrefix g edge rule p q ds → cs ≡ ds
      same_children NoChild NoChild high rule p q e d d' = refl
      same_children NoChild (Child ds u) high rule p q e d d' = cc
      same_children (Child cs t) NoChild high rule p q e d d' = cc
      same_children (Child cs t) (Child ds u) high rule p q e d d' =
          let both = then_equal (start_cmp high t u) _ e in
          let rest = then_equal (children_cmp order high cs ds) _ both.1 in
          let from : from_of u ≡ from_of t = nat_cmp-Equal _ _ (then_equal _ _ both.0).1 in
          let r_is : d'.0 ≡ d.0 = sym (from_is _ d'.0 q u d'.2) ∙ from ∙ from_is _ d.0 q t d.2 in
          let prefix' : DerivesPrefix g edge rule p d.0 ds = subst (λ r. DerivesPrefix g edge rule p r ds) r_is d'.1 in
          let cs_is : cs ≡ ds = same_children cs ds high rule p d.0 rest.0 d.1 prefix' in
          let last' : Derives g edge (child_slot rule (child_count ds)) d.0 q u = subst (λ r. Derives g edge (child_slot rule (child_count ds)) r q u) r_is d'.2 in
          let last'' : Derives g edge (child_slot rule (child_count cs)) d.0 q u = subst (λ xs. Derives g edge (child_slot rule (child_count xs)) d.0 q u) (sym cs_is) last' in
          let t_is : t ≡ u = same_tree t u _ d.0 q rest.1 d.2 last'' in
          λ k. Child (cs_is k) (t_is k)

    pub derivations_ordered : (slot : Slot) (p q : ℕ) → IsOrdered g edge order slot p q
    derivations_ordered slot p q =
        let o = trees_total order laws in
        record {
          compares = λ t u d d'. compared slot p q t u d d' (tree_cmp order t u) refl;
          irreflexive = λ t e. let e' = tied_itself o t in cc;
          asymmetric = λ t u e e'. let f = o.antisymm t u ∙ ap ordering_reverse e' in cc;
          transitive = o.trans;
        }
      where
        compared : (slot : Slot) (p q : ℕ) (t u : Tree) → Derives g edge slot p q t → Derives g edge slot p q u → (o : Ordering) → tree_cmp order t u ≡ o → (t ≡ u) ⊎ Before order t u ⊎ Before order u t
        compared slot p q t u d d' Less e = inr (inl e)
        compared slot p q t u d d' Equal e = inl (same_tree t u slot p q e d d')
        compared slot p q t u d d' Greater e = inr (inr ((trees_total order laws).antisymm u t ∙ ap ordering_reverse e))

    pub all_unique : (slot : Slot) (p q : ℕ) (ts us : List Tree) → IsAll g edge order slot p q ts → IsAll g edge order slot p q us → ts ≡ us
    all_unique slot p q ts us a b =
        one_sorted (tree_cmp order) (derivations_ordered slot p q).asymmetric ts us a.sorted b.sorted
        (λ t m. among_from us t ((b.each t).1 ((a.each t).0 (contains_from ts t m))))
        (λ t m. among_from ts t ((a.each t).1 ((b.each t).0 (contains_from us t m))))
