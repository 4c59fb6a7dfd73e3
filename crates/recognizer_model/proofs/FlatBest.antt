-- A flat derivation is of allowed rules exactly where what it stands for has rules of the best rank, if that is so of each rule of a
-- slot, and the rules of lists are allowed.
use Rattle.std.proofs.Common.{◌≡◌, ℕ, ◌<◌, ◌≤◌, length, inl, inr, sym, ap, ◌∙◌, subst, arith}
use Rattle.std.specs.Prelude.{◌↔◌, slice_index}
use Rattle.std.proofs.lemmas.Bool.{true≢false, cond-true, cond-false}
use Rattle.grammar_model.specs.Grammar.{Grammar, Slot, slot_of, rule_at, child_slot}
use Rattle.grammar_model.specs.Trees.{Tree, Children, Leaf, Nulled, Node, NoChild, Child, child_count}
use Rattle.grammar_model.specs.Derives.{Edges, Derives, DerivesPrefix}
use Rattle.grammar_model.specs.Chosen.{IsBest, AreBest, AreBestPrefix}
use Rattle.recognizer_model.specs.Chosen.{Allowed, AreAllowed, AreAllowedIn}
use Rattle.recognizer_model.proofs.Forms.{FlatList, FlatNames, IsFlatOf, IsHead, IsInner, IsPart, StandsFor, tree_of, children_of, inside}
use Rattle.recognizer_model.proofs.FlatSound.{Alike, slot_alike, join-NoChild, inner_from, inner_list, has_parts, not_list, list_node, prefix_sound}

module _ (f g : Grammar) (n : FlatNames) (flat_edge edge : Edges) (laws : IsFlatOf f g n flat_edge edge) (allowed : Allowed)
    (slot_rules : (x r p q : ℕ) (slot : Slot) (cs : Children) → StandsFor (n.symbol x) slot → Derives f flat_edge (slot_of x) p q (Node r cs p q) → allowed r p q ↔ IsBest g edge slot p q (n.source r))
    (list_rules : (x i r p q : ℕ) (cs : Children) → n.symbol x ≡ FlatList i → Derives f flat_edge (slot_of x) p q (Node r cs p q) → allowed r p q) where
  -- a node in its own place
  in_place : (x p q r : ℕ) (cs : Children) (a b : ℕ) → Derives f flat_edge (slot_of x) p q (Node r cs a b) → Derives f flat_edge (slot_of x) a b (Node r cs a b)
  in_place x p q r cs a b d =
      subst (λ z. Derives f flat_edge (slot_of x) z b (Node r cs a b)) (sym d.from_is) (subst (λ z. Derives f flat_edge (slot_of x) p z (Node r cs a b)) (sym d.to_is) d)

  prefix_step : (prefix : Children) (last : Tree) (r m q x : ℕ) → Derives f flat_edge (slot_of x) m q last →
      AreAllowedIn allowed prefix ↔ AreBestPrefix g edge (rule_at g (n.source r)) (children_of n prefix) →
      Alike (rule_at g (n.source r)) (child_count prefix) (child_count (children_of n prefix)) → IsPart g (n.symbol x) (n.source r) (child_count prefix) →
      ((slot : Slot) → StandsFor (n.symbol x) slot → AreAllowed allowed last ↔ AreBest g edge slot (tree_of n last)) →
      (n.symbol x ≡ FlatList (n.source r) → AreAllowed allowed last ↔ AreBestPrefix g edge (rule_at g (n.source r)) (inside n last)) →
      AreAllowedIn allowed (Child prefix last) ↔ AreBestPrefix g edge (rule_at g (n.source r)) (children_of n (Child prefix last))
  prefix_step prefix last r m q x d ih alike (inl s) as_tree as_list =
      let rule = rule_at g (n.source r) in
      let here : AreAllowed allowed last ↔ AreBest g edge (child_slot rule (child_count (children_of n prefix))) (tree_of n last) =
      subst (λ slot. AreAllowed allowed last ↔ AreBest g edge slot (tree_of n last)) (slot_alike rule _ _ alike) (as_tree (child_slot rule (child_count prefix)) s) in
      subst (λ c. AreAllowedIn allowed (Child prefix last) ↔ AreBestPrefix g edge rule c) (sym (cond-false _ _ _ (not_list f g n flat_edge edge laws x m q _ last d s)))
      ((λ c. (ih.0 c.0, here.0 c.1)), (λ c. (ih.1 c.0, here.1 c.1)))
  prefix_step NoChild last r m q x d ih alike (inr e) as_tree as_list =
      let rule = rule_at g (n.source r) in
      let here = as_list e.1 in
      subst (λ c. AreAllowedIn allowed (Child NoChild last) ↔ AreBestPrefix g edge rule c) (sym (join-NoChild (inside n last)) ∙ sym (cond-true _ _ _ (list_node f g n flat_edge edge laws x m q _ last d e.1)))
      ((λ c. here.0 c.1), (λ c. (tt, here.1 c)))
  prefix_step (Child prefix more) last r m q x d ih alike (inr e) as_tree as_list = let z = e.0 in absurd (omega arith)

  mutual
    pub tree_best : (t : Tree) (x p q : ℕ) (slot : Slot) → StandsFor (n.symbol x) slot → Derives f flat_edge (slot_of x) p q t → AreAllowed allowed t ↔ AreBest g edge slot (tree_of n t)
    tree_best (Leaf y a b) x p q slot s d = ((λ h. tt), (λ h. tt))
    tree_best (Nulled y a) x p q slot s d = ((λ h. tt), (λ h. tt))
    tree_best (Node r cs a b) x p q slot s d =
        let h = has_parts f g n flat_edge edge laws x p q r cs a b d in
        let prefix = prefix_best cs r p q d.in_range (subst (λ z. IsInner (n.symbol z)) (sym h.1) (inner_from (n.symbol x) slot s)) (omega (arith, h.0)) d.prefix in
        let here = slot_rules x r a b slot cs s (in_place x p q r cs a b d) in
        ((λ c. (here.0 c.0, prefix.0 c.1)), (λ c. (here.1 c.0, prefix.1 c.1)))

    prefix_best : (cs : Children) (r p q : ℕ) → r < length f.rules → IsInner (n.symbol (n.lhs r)) → child_count cs ≤ length (n.rhs r) → DerivesPrefix f flat_edge (rule_at f r) p q cs →
        AreAllowedIn allowed cs ↔ AreBestPrefix g edge (rule_at g (n.source r)) (children_of n cs)
    prefix_best NoChild r p q lt inner c d = ((λ h. tt), (λ h. tt))
    prefix_best (Child prefix last) r p q lt inner c (m, fr, l) =
        let ih = prefix_best prefix r p m lt inner (omega arith) fr in
        let k = child_count prefix in
        let l' : Derives f flat_edge (slot_of (slice_index (n.rhs r) k)) m q last = subst (λ rule. Derives f flat_edge (child_slot rule k) m q last) (laws.flat r lt) l in
        prefix_step prefix last r m q (slice_index (n.rhs r) k) l' ih (prefix_sound f g n flat_edge edge laws prefix r p m lt inner (omega arith) fr).1 (laws.part r k lt (omega arith) inner)
        (λ slot s. tree_best last (slice_index (n.rhs r) k) m q slot s l')
        (λ e. list_best last (slice_index (n.rhs r) k) (n.source r) m q e l')

    list_best : (t : Tree) (x i p q : ℕ) → n.symbol x ≡ FlatList i → Derives f flat_edge (slot_of x) p q t → AreAllowed allowed t ↔ AreBestPrefix g edge (rule_at g i) (inside n t)
    list_best (Leaf y a b) x i p q e d = absurd (true≢false (sym (list_node f g n flat_edge edge laws x p q i (Leaf y a b) d e)))
    list_best (Nulled y a) x i p q e d = absurd (true≢false (sym (list_node f g n flat_edge edge laws x p q i (Nulled y a) d e)))
    list_best (Node r cs a b) x i p q e d =
        let h = has_parts f g n flat_edge edge laws x p q r cs a b d in
        let prefix = prefix_best cs r p q d.in_range (subst (λ z. IsInner (n.symbol z)) (sym h.1) (inner_list (n.symbol x) i e)) (omega (arith, h.0)) d.prefix in
        let head = subst (λ z. IsHead g z (n.source r) (length (n.rhs r))) (ap n.symbol h.1 ∙ e) (laws.head r d.in_range h.2) in
        let same : n.source r ≡ i = head.0 in
        let moved = subst (λ j. AreAllowedIn allowed cs ↔ AreBestPrefix g edge (rule_at g j) (children_of n cs)) same prefix in
        ((λ c. moved.0 c.1), (λ c. (list_rules x i r a b cs e (in_place x p q r cs a b d), moved.1 c)))
