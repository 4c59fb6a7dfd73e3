-- How lists of all derivations are put together: a rule's first children by the starts of the last one, then the
-- lists before it, then the last ones; and a slot's nodes by their rules, in order. The lister of simple grammars
-- and the enumeration of a shared forest are both made of these two steps.
use Rattle.std.proofs.Common.{◌≡◌, ℕ, suc, ◌<◌, Bool, true, false, List, map, length, refl, sym, ap, ◌∙◌, subst, arith, eq-eqb}
use Rattle.std.specs.Prelude.{◌↔◌, ◌==◌}
use Rattle.std.specs.List.{flat_map}
use Rattle.std.specs.List.Sorted.{IsStrictlySortedBy}
use Rattle.std.specs.declared.cmp.Ordering.{Ordering}
use Rattle.std.specs.declared.cmp.Ordering.TheVariants.{Less, Equal}
use Rattle.std.specs.Ordering.{ordering_then, nat_cmp}
use Rattle.std.specs.Cmp.{tied_itself}
use Rattle.finite_sets.proofs.Members.{among_from, contains_from, among_map, among_map_from, among_flat_map, among_flat_map_from, Among}
use Rattle.finite_sets.proofs.Clauses.{less_differs}
use Rattle.grammar_model.specs.Grammar.{Grammar, Slot, WrittenRule, rule_at, Fits, IsChildCount, IsTerminal, child_slot}
use Rattle.grammar_model.specs.Trees.{Tree, Children, Leaf, Nulled, Node, NoChild, Child, child_count}
use Rattle.grammar_model.specs.Derives.{Edges, Derives, DerivesPrefix}
use Rattle.grammar_model.specs.Order.{IsRuleOrder, RuleOrder, null_place, start_cmp, tree_cmp, children_cmp}
use Rattle.grammar_model.specs.All.{IsAll}
use Rattle.grammar_model.proofs.Sorting.{children_total, start_total}
use Rattle.grammar_model.proofs.Total.{from_is}
use Rattle.grammar_model.proofs.Lists.{sorted_map, sorted_flat_map}

abbrev pub GoForward : Edges → Type 0
GoForward edge = (s p q : ℕ) → edge s p q → p < q

-- the place of a last child that spans r to q, where the second argument says whether r is q
abbrev pub place_of : Bool → Bool → ℕ
place_of high false = 1
place_of true true = 0
place_of false true = 2

abbrev pub at_cmp : Bool → ℕ → ℕ → ℕ → Ordering
at_cmp high q r r' = ordering_then (nat_cmp (place_of high (r == q)) (place_of high (r' == q))) (nat_cmp r' r)

null_placed : (high : Bool) (s a : ℕ) → null_place high (Nulled s a) ≡ place_of high true
null_placed true s a = refl
null_placed false s a = refl

module _ (g : Grammar) (edge : Edges) (forward : GoForward edge) where
  placed : (high : Bool) (slot : Slot) (r q : ℕ) (t : Tree) → Derives g edge slot r q t → null_place high t ≡ place_of high (r == q)
  placed high slot r q (Leaf s a b) d =
      let lt : a < b = forward s a b d.held in
      let e1 = d.from_is in let e2 = d.to_is in
      sym (ap (place_of high) (less_differs r q (omega arith)))
  placed high slot r q (Nulled s a) d =
      let e : r ≡ q = sym d.from_is ∙ d.to_is in
      null_placed high s a ∙ sym (ap (place_of high) (eq-eqb r q e))
  placed high slot r q (Node i cs a b) d = sym (ap (place_of high) (less_differs r q d.spans))

  starts_at : (high : Bool) (s s' : Slot) (q r r' : ℕ) (t u : Tree) → Derives g edge s r q t → Derives g edge s' r' q u → start_cmp high t u ≡ at_cmp high q r r'
  starts_at high s s' q r r' t u d d' =
      let a = placed high s r q t d in
      let b = placed high s' r' q u d' in
      let c = from_is g edge s r q t d in
      let e = from_is g edge s' r' q u d' in
      λ i. ordering_then (nat_cmp (a i) (b i)) (nat_cmp (e i) (c i))

  module _ (order : RuleOrder) (laws : IsRuleOrder order) where
    -- all derivations of a rule's first children, where N says which numbers of them are meant
    pub record IsAllPrefix (rule : WrittenRule) (high : Bool) (N : ℕ → Type 0) (p q : ℕ) (prefixes : List Children) : Type 0 where
      pub sorted : IsStrictlySortedBy (children_cmp order high) prefixes
      pub each : (cs : Children) → Among cs prefixes ↔ (DerivesPrefix g edge rule p q cs × N (child_count cs))

    module _ (rule : WrittenRule) (high : Bool) (N : ℕ → Type 0) (slot : Slot) (one_slot : (n : ℕ) → N n → child_slot rule n ≡ slot)
        (p q : ℕ) (starts : List ℕ) (prefixes : ℕ → List Children) (lasts : ℕ → List Tree)
        (in_order : IsStrictlySortedBy (at_cmp high q) starts)
        (all_prefixes : (r : ℕ) → Among r starts → IsAllPrefix rule high N p r (prefixes r))
        (all_lasts : (r : ℕ) → Among r starts → IsAll g edge order slot r q (lasts r))
        (all_starts : (r : ℕ) (cs : Children) (t : Tree) → DerivesPrefix g edge rule p r cs → N (child_count cs) → Derives g edge slot r q t → Among r starts) where
      abbrev pub with_last : ℕ → List Children
      with_last r = flat_map (λ cs. map (Child cs) (lasts r)) (prefixes r)

      last_of : (r : ℕ) → Among r starts → (t : Tree) → Among t (lasts r) → Derives g edge slot r q t
      last_of r m t k = ((all_lasts r m).each t).0 (contains_from (lasts r) t k)

      -- a member is a prefix and a last child
      parts : (r : ℕ) (ds : Children) → Among ds (with_last r) → (cs : Children) × (t : Tree) × Among cs (prefixes r) × Among t (lasts r) × (Child cs t ≡ ds)
      parts r ds m =
          let a = among_flat_map_from (λ cs. map (Child cs) (lasts r)) ds (prefixes r) m in
          let b = among_map_from (Child a.0) ds (lasts r) a.2 in
          (a.0, b.0, a.1, b.1, b.2)

      same_start : (r : ℕ) → Among r starts → (t u : Tree) → Among t (lasts r) → Among u (lasts r) → start_cmp high t u ≡ Equal
      same_start r m t u k l =
          let a = starts_at high slot slot q r r t u (last_of r m t k) (last_of r m u l) in
          let b = starts_at high slot slot q r r t t (last_of r m t k) (last_of r m t k) in
          a ∙ sym b ∙ tied_itself (start_total high) t

      inner : (r : ℕ) → Among r starts → IsStrictlySortedBy (children_cmp order high) (with_last r)
      inner r m =
          sorted_flat_map (children_cmp order high) (children_cmp order high) (λ cs. map (Child cs) (lasts r)) (prefixes r) (all_prefixes r m).sorted
          (λ cs k. sorted_map (tree_cmp order) (children_cmp order high) (Child cs) (lasts r) (all_lasts r m).sorted
          (λ t u k' l' lt. ap (λ o. ordering_then o (ordering_then (children_cmp order high cs cs) (tree_cmp order t u))) (same_start r m t u k' l')
          ∙ ap (λ o. ordering_then o (tree_cmp order t u)) (tied_itself (children_total order laws high) cs) ∙ lt))
          (λ cs cs' ds ds' lt k k' m1 m2.
          let b = among_map_from (Child cs) ds (lasts r) m1 in
          let b' = among_map_from (Child cs') ds' (lasts r) m2 in
          subst (λ x. children_cmp order high x ds' ≡ Less) b.2 (subst (λ x. children_cmp order high (Child cs b.0) x ≡ Less) b'.2
          (ap (λ o. ordering_then o (ordering_then (children_cmp order high cs cs') (tree_cmp order b.0 b'.0))) (same_start r m b.0 b'.0 b.1 b'.1)
          ∙ ap (λ o. ordering_then o (tree_cmp order b.0 b'.0)) lt)))

      across : (r r' : ℕ) (ds ds' : Children) → at_cmp high q r r' ≡ Less → Among r starts → Among r' starts → Among ds (with_last r) → Among ds' (with_last r') → children_cmp order high ds ds' ≡ Less
      across r r' ds ds' lt m m' k k' =
          let a = parts r ds k in
          let b = parts r' ds' k' in
          let s = starts_at high slot slot q r r' a.1 b.1 (last_of r m a.1 a.3) (last_of r' m' b.1 b.3) in
          subst (λ x. children_cmp order high x ds' ≡ Less) a.4 (subst (λ x. children_cmp order high (Child a.0 a.1) x ≡ Less) b.4
          (ap (λ o. ordering_then o (ordering_then (children_cmp order high a.0 b.0) (tree_cmp order a.1 b.1))) (s ∙ lt)))

      -- one more child
      abbrev pub More : ℕ → Type 0
      More m = (n : ℕ) × N n × (m ≡ suc n)

      derived : (r : ℕ) (cs : Children) (t : Tree) → Among r starts → Among cs (prefixes r) → Among t (lasts r) → DerivesPrefix g edge rule p q (Child cs t) × More (suc (child_count cs))
      derived r cs t m k l =
          let f = ((all_prefixes r m).each cs).0 k in
          let d = last_of r m t l in
          ((r, f.0, subst (λ s. Derives g edge s r q t) (sym (one_slot (child_count cs) f.1)) d), (child_count cs, f.1, refl))

      found : (cs : Children) → DerivesPrefix g edge rule p q cs → More (child_count cs) → Among cs (flat_map with_last starts)
      found NoChild d (n, k, e) = absurd (omega arith)
      found (Child cs t) (r, f, d) (n, k, e) =
          let same : n ≡ child_count cs = omega arith in
          let k' : N (child_count cs) = subst N same k in
          let d' : Derives g edge slot r q t = subst (λ s. Derives g edge s r q t) (one_slot (child_count cs) k') d in
          let m : Among r starts = all_starts r cs t f k' d' in
          let mc : Among cs (prefixes r) = ((all_prefixes r m).each cs).1 (f, k') in
          let mt : Among t (lasts r) = among_from (lasts r) t (((all_lasts r m).each t).1 d') in
          among_flat_map with_last r (Child cs t) starts m (among_flat_map (λ xs. map (Child xs) (lasts r)) cs (Child cs t) (prefixes r) mc (among_map (Child cs) t (lasts r) mt))

      pub all_with_last : IsAllPrefix rule high More p q (flat_map with_last starts)
      all_with_last = record {
        sorted = sorted_flat_map (at_cmp high q) (children_cmp order high) with_last starts in_order inner across;
        each = λ ds. (
          λ m. (let a = among_flat_map_from with_last ds starts m in
              let b = parts a.0 ds a.2 in
              subst (λ x. DerivesPrefix g edge rule p q x × More (child_count x)) b.4 (derived a.0 b.0 b.1 a.1 b.2 b.3)),
          λ d. found ds d.0 d.1,
        );
      }

    -- the nodes of a slot over p to q, by keys: a key is a rule with what its children's number has to be
    module _ (K : Type 0) (key_cmp : K → K → Ordering) (rule_of : K → ℕ) (N : K → ℕ → Type 0) (slot : Slot) (p q : ℕ) (spans : p < q)
        (inner_symbol : IsTerminal g slot.symbol → ⊥) (keys : List K) (prefixes : K → List Children)
        (in_order : IsStrictlySortedBy key_cmp keys)
        (key_order : (k k' : K) (m n : ℕ) → Among k keys → Among k' keys → N k m → N k' n → order.cmp (rule_of k) m (rule_of k') n ≡ key_cmp k k')
        (fitting : (k : K) → Among k keys → (rule_of k < length g.rules) × Fits (rule_at g (rule_of k)) slot × ((n : ℕ) → N k n → IsChildCount (rule_at g (rule_of k)) n))
        (all_prefixes : (k : K) → Among k keys → IsAllPrefix (rule_at g (rule_of k)) (order.null_high (rule_of k)) (N k) p q (prefixes k))
        (all_keys : (i n : ℕ) → i < length g.rules → Fits (rule_at g i) slot → IsChildCount (rule_at g i) n → (k : K) × Among k keys × (rule_of k ≡ i) × N k n) where
      abbrev node : K → Children → Tree
      node k cs = Node (rule_of k) cs p q

      abbrev pub nodes : K → List Tree
      nodes k = map (node k) (prefixes k)

      -- two nodes of one key compare as their children do
      same_key : (k : K) (cs ds : Children) → Among k keys → N k (child_count cs) → N k (child_count ds) → order.cmp (rule_of k) (child_count cs) (rule_of k) (child_count ds) ≡ Equal
      same_key k cs ds m a b = key_order k k _ _ m m a b ∙ sym (key_order k k _ _ m m a a) ∙ tied_itself laws.total (rule_of k, child_count cs)

      node_inner : (k : K) → Among k keys → IsStrictlySortedBy (tree_cmp order) (nodes k)
      node_inner k m =
          sorted_map (children_cmp order (order.null_high (rule_of k))) (tree_cmp order) (node k) (prefixes k) (all_prefixes k m).sorted
          (λ cs ds a b lt. ap (λ o. ordering_then o (children_cmp order (order.null_high (rule_of k)) cs ds))
          (same_key k cs ds m (((all_prefixes k m).each cs).0 a).1 (((all_prefixes k m).each ds).0 b).1) ∙ lt)

      node_across : (k k' : K) (t u : Tree) → key_cmp k k' ≡ Less → Among k keys → Among k' keys → Among t (nodes k) → Among u (nodes k') → tree_cmp order t u ≡ Less
      node_across k k' t u lt m m' a b =
          let x = among_map_from (node k) t (prefixes k) a in
          let y = among_map_from (node k') u (prefixes k') b in
          subst (λ w. tree_cmp order w u ≡ Less) x.2 (subst (λ w. tree_cmp order (node k x.0) w ≡ Less) y.2
          (ap (λ o. ordering_then o (children_cmp order (order.null_high (rule_of k)) x.0 y.0))
          (key_order k k' _ _ m m' (((all_prefixes k m).each x.0).0 x.1).1 (((all_prefixes k' m').each y.0).0 y.1).1 ∙ lt)))

      node_derived : (k : K) (cs : Children) → Among k keys → Among cs (prefixes k) → Derives g edge slot p q (node k cs)
      node_derived k cs m a =
          let f = fitting k m in
          let d = ((all_prefixes k m).each cs).0 a in
          record { from_is = refl; to_is = refl; spans = spans; in_range = f.0; fits = f.1; complete = f.2 (child_count cs) d.1; prefix = d.0 }

      node_found : (t : Tree) → Derives g edge slot p q t → Among t (flat_map nodes keys)
      node_found (Leaf s a b) d = absurd (inner_symbol (subst (IsTerminal g) d.symbol_is d.terminal))
      node_found (Nulled s a) d = let e : p ≡ q = sym d.from_is ∙ d.to_is in absurd (omega arith)
      node_found (Node i cs a b) d =
          let k = all_keys i (child_count cs) d.in_range d.fits d.complete in
          let prefix : DerivesPrefix g edge (rule_at g (rule_of k.0)) p q cs = subst (λ j. DerivesPrefix g edge (rule_at g j) p q cs) (sym k.2) d.prefix in
          let m : Among cs (prefixes k.0) = ((all_prefixes k.0 k.1).each cs).1 (prefix, k.3) in
          let here : node k.0 cs ≡ Node i cs a b = λ j. Node (k.2 j) cs (sym d.from_is j) (sym d.to_is j) in
          subst (λ t. Among t (flat_map nodes keys)) here (among_flat_map nodes k.0 (node k.0 cs) keys k.1 (among_map (node k.0) cs (prefixes k.0) m))

      pub all_nodes : IsAll g edge order slot p q (flat_map nodes keys)
      all_nodes = record {
        sorted = sorted_flat_map key_cmp (tree_cmp order) nodes keys in_order node_inner node_across;
        each = λ t. (
          λ c. (let a = among_flat_map_from nodes t keys (among_from _ t c) in
              let b = among_map_from (node a.0) t (prefixes a.0) a.2 in
              subst (Derives g edge slot p q) b.2 (node_derived a.0 b.0 a.1 b.1)),
          λ d. contains_from _ t (node_found t d),
        );
      }
