-- The lists of child lists of a grammar, where those of its trees are known: over all starts of the last child, and by other
-- starts or rules that are enough.
use Rattle.std.proofs.Common.{◌≡◌, ℕ, zero, suc, ◌<◌, ◌≤◌, Bool, true, false, List, [], ◌∷◌, ◌++◌, map, length, ◌⊎◌, inl, inr, refl, sym, ap, ◌∙◌, subst, arith}
use Rattle.std.specs.List.{flat_map}
use Rattle.std.specs.List.Sorted.{IsStrictlySortedBy}
use Rattle.std.specs.declared.cmp.Ordering.{Ordering}
use Rattle.std.specs.declared.cmp.Ordering.TheVariants.{Less, Equal}
use Rattle.std.specs.Ordering.{ordering_then, ordering_reverse, nat_cmp}
use Rattle.std.specs.Cmp.{tied_itself}
use Rattle.std.proofs.lemmas.Bool.{eq-eqb, ne_eqb, cases_eq}
use Rattle.finite_sets.proofs.Members.{among_from, contains_from, among_left, among_right, among_map, among_map_from, among_flat_map, among_flat_map_from, Among}
use Rattle.grammar_model.specs.Grammar.{Grammar, Slot, WrittenRule, rule_at, Fits, IsChildCount, IsTerminal, child_slot}
use Rattle.grammar_model.specs.Trees.{Tree, Children, Leaf, Nulled, Node, NoChild, Child, child_count}
use Rattle.grammar_model.specs.Derives.{Edges, Derives, DerivesPrefix}
use Rattle.grammar_model.specs.Order.{IsRuleOrder, RuleOrder, tree_cmp, children_cmp}
use Rattle.grammar_model.specs.All.{IsAll}
use Rattle.grammar_model.specs.Simple.{places}
use Rattle.grammar_model.proofs.Sorting.{children_total}
use Rattle.grammar_model.proofs.Lists.{each_from, sorted_append, sorted_map, sorted_flat_map, one_sorted}
use Rattle.grammar_model.proofs.Simple.{among_places_from, among_places, places_sorted}
use Rattle.grammar_model.proofs.Compose.{GoForward, at_cmp, place_of, IsAllPrefix, all_with_last}

module _ (g : Grammar) (edge : Edges) (forward : GoForward edge) (order : RuleOrder) (laws : IsRuleOrder order) where
  abbrev pub AllPrefixes : WrittenRule → Bool → (n p q : ℕ) → List Children → Type 0
  AllPrefixes rule high n p q prefixes = IsAllPrefix g edge forward order laws rule high (λ m. m ≡ n) p q prefixes

  pub prefix_unique : (rule : WrittenRule) (high : Bool) (n p q : ℕ) (xs ys : List Children) → AllPrefixes rule high n p q xs → AllPrefixes rule high n p q ys → xs ≡ ys
  prefix_unique rule high n p q xs ys a b =
      one_sorted (children_cmp order high) (λ cs ds e e'. (let f = (children_total order laws high).antisymm cs ds ∙ ap ordering_reverse e' in cc)) xs ys a.sorted b.sorted
      (λ cs m. (b.each cs).1 ((a.each cs).0 m)) (λ cs m. (a.each cs).1 ((b.each cs).0 m))

  ahead : (slot : Slot) (p q : ℕ) (t : Tree) → Derives g edge slot p q t → p ≤ q
  ahead slot p q (Leaf s a b) d = let h = forward s a b d.held in let e = d.from_is in let e' = d.to_is in omega arith
  ahead slot p q (Nulled s a) d = let e = d.from_is in let e' = d.to_is in omega arith
  ahead slot p q (Node i cs a b) d = let h = d.spans in omega arith

  -- no children
  no_prefix : (rule : WrittenRule) (p q : ℕ) (cs : Children) → DerivesPrefix g edge rule p q cs × (child_count cs ≡ 0) → (p ≡ q) × (NoChild ≡ cs)
  no_prefix rule p q NoChild d = (d.0, refl)
  no_prefix rule p q (Child cs t) d = let e = d.1 in absurd (omega arith)

  pub one_prefix : (rule : WrittenRule) (high : Bool) (p : ℕ) → AllPrefixes rule high 0 p p (NoChild ∷ [])
  unfolding IsStrictlySortedBy
  one_prefix rule high p = record {
    sorted = (tt, tt);
    each = λ cs. (
      λ m. elim m [ inl h ↦ subst (λ x. DerivesPrefix g edge rule p p x × (child_count x ≡ 0)) h (refl, refl) | inr b ↦ absurd b ],
      λ d. inl (no_prefix rule p p cs d).1,
    );
  }

  none_prefix : (rule : WrittenRule) (high : Bool) (p q : ℕ) → (p ≡ q → ⊥) → AllPrefixes rule high 0 p q []
  unfolding IsStrictlySortedBy
  none_prefix rule high p q ne = record { sorted = tt; each = λ cs. (λ m. absurd m, λ d. absurd (ne (no_prefix rule p q cs d).0)) }

  -- all places that a last child may start at
  abbrev starts : Bool → ℕ → List ℕ
  starts true q = q ∷ places 0 q
  starts false q = places 0 q ++ q ∷ []

  starts_sorted : (high : Bool) (q : ℕ) → IsStrictlySortedBy (at_cmp high q) (starts high q)
  unfolding IsStrictlySortedBy
  starts_sorted true q = (
    each_from (λ r. at_cmp true q q r ≡ Less) (places 0 q) (λ r m.
        (let h = among_places_from 0 q r m in
        let a = eq-eqb q q refl in
        let b = ne_eqb r q (λ e. omega arith) in
        (λ i. ordering_then (nat_cmp (place_of true (a i)) (place_of true (b i))) (nat_cmp r q)))),
    places_sorted true 0 q q (omega arith),
  )
  starts_sorted false q = sorted_append (at_cmp false q) (places 0 q) (q ∷ []) (places_sorted false 0 q q (omega arith)) (tt, tt) last
    where
      last : (r r' : ℕ) → Among r (places 0 q) → (q ≡ r') ⊎ ⊥ → at_cmp false q r r' ≡ Less
      last r r' m (inl e) =
          let h = among_places_from 0 q r m in
          let a = ne_eqb r q (λ z. omega arith) in
          let b = eq-eqb r' q (sym e) in
          (λ i. ordering_then (nat_cmp (place_of false (a i)) (place_of false (b i))) (nat_cmp r' r))
      last r r' m (inr z) = absurd z

  among_starts : (high : Bool) (q r : ℕ) → r ≤ q → Among r (starts high q)
  among_starts high q r le = go high (cases_eq r q)
    where
      go : (high : Bool) → (r ≡ q) ⊎ (r ≡ q → ⊥) → Among r (starts high q)
      go true (inl e) = inl (sym e)
      go true (inr ne) = inr (among_places 0 q r (omega arith) (omega arith))
      go false (inl e) = among_right r (places 0 q) (q ∷ []) (inl (sym e))
      go false (inr ne) = among_left r (places 0 q) (q ∷ []) (among_places 0 q r (omega arith) (omega arith))

  -- where the lists of trees are known
  module _ (exact : (slot : Slot) (p q : ℕ) → (trees : List Tree) × IsAll g edge order slot p q trees) where
    abbrev pub behind : Slot → ℕ → (ℕ → List Children) → ℕ → List Children
    behind slot q prefixes r = flat_map (λ cs. map (Child cs) (exact slot r q).0) (prefixes r)

    -- one child more, by starts that are enough
    pub one_more : (rule : WrittenRule) (high : Bool) (n : ℕ) (slot : Slot) → child_slot rule n ≡ slot → (p q : ℕ) (prefixes : (r : ℕ) → (cs : List Children) × AllPrefixes rule high n p r cs) →
        (from : List ℕ) → IsStrictlySortedBy (at_cmp high q) from →
        ((r : ℕ) (cs : Children) (t : Tree) → DerivesPrefix g edge rule p r cs → child_count cs ≡ n → Derives g edge slot r q t → Among r from) →
        AllPrefixes rule high (suc n) p q (flat_map (behind slot q (λ r. (prefixes r).0)) from)
    one_more rule high n slot is p q prefixes from sorted enough = exactly
        (all_with_last g edge forward order laws rule high (λ m. m ≡ n) slot (λ m e. ap (child_slot rule) e ∙ is) p q from (λ r. (prefixes r).0) (λ r. (exact slot r q).0)
        sorted (λ r m. (prefixes r).1) (λ r m. (exact slot r q).1) enough)
      where
        exactly : {xs : List Children} → IsAllPrefix g edge forward order laws rule high (λ m. (k : ℕ) × (k ≡ n) × (m ≡ suc k)) p q xs → AllPrefixes rule high (suc n) p q xs
        exactly {xs} a = record {
          sorted = a.sorted;
          each = λ cs. (λ m. (let r = (a.each cs).0 m in (r.0, r.1.2 ∙ ap suc r.1.1)), λ d. (a.each cs).1 (d.0, (n, refl, d.1)));
        }

    pub all_prefixes : (rule : WrittenRule) (high : Bool) (n p q : ℕ) → (cs : List Children) × AllPrefixes rule high n p q cs
    all_prefixes rule high zero p q = go (cases_eq p q)
      where
        go : (p ≡ q) ⊎ (p ≡ q → ⊥) → (cs : List Children) × AllPrefixes rule high 0 p q cs
        go (inl e) = (NoChild ∷ [], subst (λ z. AllPrefixes rule high 0 p z (NoChild ∷ [])) e (one_prefix rule high p))
        go (inr ne) = ([], none_prefix rule high p q ne)
    all_prefixes rule high (suc n) p q =
        let prefixes = λ (r : ℕ). all_prefixes rule high n p r in (
          flat_map (behind (child_slot rule n) q (λ r. (prefixes r).0)) (starts high q),
          one_more rule high n (child_slot rule n) refl p q prefixes (starts high q) (starts_sorted high q)
              (λ r cs t f e d. among_starts high q r (ahead (child_slot rule n) r q t d)),
        )

    -- the nodes of a slot, by rules that are enough
    module _ (slot : Slot) (p q : ℕ) (spans : p < q) (inner : IsTerminal g slot.symbol → ⊥) (count : ℕ → ℕ) (cmp : ℕ → ℕ → Ordering)
        (cmp_is : (r s : ℕ) → order.cmp r (count r) s (count s) ≡ cmp r s) (rules : List ℕ) (sorted : IsStrictlySortedBy cmp rules)
        (fitting : (r : ℕ) → Among r rules → (r < length g.rules) × Fits (rule_at g r) slot × IsChildCount (rule_at g r) (count r))
        (enough : (r : ℕ) (cs : Children) → r < length g.rules → Fits (rule_at g r) slot → IsChildCount (rule_at g r) (child_count cs) → DerivesPrefix g edge (rule_at g r) p q cs → Among r rules × (child_count cs ≡ count r)) where
      abbrev pub nodes_of : ℕ → List Tree
      nodes_of r = map (λ cs. Node r cs p q) (all_prefixes (rule_at g r) (order.null_high r) (count r) p q).0

      one_rule : (r : ℕ) (cs ds : Children) → child_count cs ≡ count r → child_count ds ≡ count r → order.cmp r (child_count cs) r (child_count ds) ≡ Equal
      one_rule r cs ds a b = (λ i. order.cmp r (a i) r (b i)) ∙ tied_itself laws.total (r, count r)

      two_rules : (r s : ℕ) (cs ds : Children) → child_count cs ≡ count r → child_count ds ≡ count s → order.cmp r (child_count cs) s (child_count ds) ≡ cmp r s
      two_rules r s cs ds a b = (λ i. order.cmp r (a i) s (b i)) ∙ cmp_is r s

      counted : (r : ℕ) (cs : Children) → Among cs (all_prefixes (rule_at g r) (order.null_high r) (count r) p q).0 → child_count cs ≡ count r
      counted r cs m = (((all_prefixes (rule_at g r) (order.null_high r) (count r) p q).1.each cs).0 m).1

      in_rule : (r : ℕ) → IsStrictlySortedBy (tree_cmp order) (nodes_of r)
      in_rule r =
          let a = all_prefixes (rule_at g r) (order.null_high r) (count r) p q in
          sorted_map (children_cmp order (order.null_high r)) (tree_cmp order) (λ cs. Node r cs p q) a.0 a.1.sorted
          (λ cs ds m n lt. ap (λ o. ordering_then o (children_cmp order (order.null_high r) cs ds)) (one_rule r cs ds (counted r cs m) (counted r ds n)) ∙ lt)

      across : (r s : ℕ) (t u : Tree) → cmp r s ≡ Less → Among r rules → Among s rules → Among t (nodes_of r) → Among u (nodes_of s) → tree_cmp order t u ≡ Less
      across r s t u lt m n a b =
          let x = among_map_from (λ cs. Node r cs p q) t (all_prefixes (rule_at g r) (order.null_high r) (count r) p q).0 a in
          let y = among_map_from (λ cs. Node s cs p q) u (all_prefixes (rule_at g s) (order.null_high s) (count s) p q).0 b in
          subst (λ w. tree_cmp order w u ≡ Less) x.2 (subst (λ w. tree_cmp order (Node r x.0 p q) w ≡ Less) y.2
          (ap (λ o. ordering_then o (children_cmp order (order.null_high r) x.0 y.0)) (two_rules r s x.0 y.0 (counted r x.0 x.1) (counted s y.0 y.1) ∙ lt)))

      derived : (r : ℕ) (cs : Children) → Among r rules → Among cs (all_prefixes (rule_at g r) (order.null_high r) (count r) p q).0 → Derives g edge slot p q (Node r cs p q)
      derived r cs m a =
          let f = fitting r m in
          let d = ((all_prefixes (rule_at g r) (order.null_high r) (count r) p q).1.each cs).0 a in
          record { from_is = refl; to_is = refl; spans = spans; in_range = f.0; fits = f.1; complete = subst (IsChildCount (rule_at g r)) (sym d.1) f.2; prefix = d.0 }

      found : (t : Tree) → Derives g edge slot p q t → Among t (flat_map nodes_of rules)
      found (Leaf s a b) d = absurd (inner (subst (IsTerminal g) d.symbol_is d.terminal))
      found (Nulled s a) d = let e : p ≡ q = sym d.from_is ∙ d.to_is in absurd (omega arith)
      found (Node r cs a b) d =
          let k = enough r cs d.in_range d.fits d.complete d.prefix in
          let m = ((all_prefixes (rule_at g r) (order.null_high r) (count r) p q).1.each cs).1 (d.prefix, k.1) in
          let here : Node r cs p q ≡ Node r cs a b = λ j. Node r cs (sym d.from_is j) (sym d.to_is j) in
          subst (λ t. Among t (flat_map nodes_of rules)) here (among_flat_map nodes_of r (Node r cs p q) rules k.0 (among_map (λ ds. Node r ds p q) cs (all_prefixes (rule_at g r) (order.null_high r) (count r) p q).0 m))

      pub nodes_all : IsAll g edge order slot p q (flat_map nodes_of rules)
      nodes_all = record {
        sorted = sorted_flat_map cmp (tree_cmp order) nodes_of rules sorted (λ r m. in_rule r) across;
        each = λ t. (
          λ c. (let a = among_flat_map_from nodes_of t rules (among_from _ t c) in
              let b = among_map_from (λ cs. Node a.0 cs p q) t (all_prefixes (rule_at g a.0) (order.null_high a.0) (count a.0) p q).0 a.2 in
              subst (Derives g edge slot p q) b.2 (derived a.0 b.0 a.1 b.1)),
          λ d. contains_from _ t (found t d),
        );
      }
