-- What the nodes of a forest stand for is all that their keys say: of the lists of the reading, what is of allowed rules.
use Rattle.std.proofs.Common.{◌≡◌, ℕ, zero, suc, ◌<◌, ◌≤◌, ◌-◌, Bool, true, false, cond, List, [], ◌∷◌, map, length, inl, inr, Option, Some, None, refl, sym, ap, ◌∙◌, subst, arith, lit≤}
use Rattle.std.specs.Prelude.{◌==◌, ◌↔◌, if◌then◌else◌, filter, slice_get, slice_index_or, Contains}
use Rattle.std.specs.List.{flat_map}
use Rattle.std.specs.List.Sorted.{IsStrictlySortedBy}
use Rattle.std.specs.declared.cmp.Ordering.{Ordering}
use Rattle.std.specs.Ordering.{ordering_then, ordering_reverse, nat_cmp}
use Rattle.std.specs.Cmp.{on_total}
use Rattle.std.proofs.lemmas.List.Kept.{IsStrictlySortedBy-filter}
use Rattle.std.proofs.lemmas.List.{append-nil}
use Rattle.std.proofs.lemmas.List.Folds.{flat_map-map}
use Rattle.finite_sets.proofs.Lists.{get_among, get_index}
use Rattle.grammar_model.specs.Grammar.{Slot, slot_of, rule_at, child_slot}
use Rattle.grammar_model.specs.Grammar
use Rattle.grammar_model.specs.Trees.{Tree, Children, Leaf, Nulled, Node, NoChild, Child, child_count}
use Rattle.grammar_model.specs.Derives.{Edges, Held, DerivesPrefix}
use Rattle.grammar_model.specs.Order.{RuleOrder, IsRuleOrder, tree_cmp}
use Rattle.grammar_model.specs.All.{IsAll}
use Rattle.grammar_model.proofs.Total.{all_unique, nullable_not_terminal}
use Rattle.grammar_model.proofs.Lists.{one_sorted}
use Rattle.grammar_model.proofs.Compose.{GoForward, at_cmp, place_of}
use Rattle.recognizer_model.specs.declared.NodeKey.{NodeKey}
use Rattle.recognizer_model.specs.declared.flat.FlatSymbol.TheVariants.{Terminal, Top}
use Rattle.recognizer_model.specs.Flat.{FlatGrammar, IsRule, lhs_of, rhs_of, IsNullable}
use Rattle.recognizer_model.specs.FlatForm.{StandsFor, symbol_at, flat_order, tree_of}
use Rattle.recognizer_model.specs.FlatDerives.{Spans, Token, Null, Rule}
use Rattle.recognizer_model.specs.FlatDerives
use Rattle.recognizer_model.specs.Acceptable.{OnlyTerminals}
use Rattle.recognizer_model.specs.Invariant.{IsFlat, IsTopOf}
use Rattle.recognizer_model.specs.View.{grammar_view}
use Rattle.recognizer_model.proofs.Views.{IsKindOf, kind_of, rule_viewed, in_view, nullable_viewed, terminal_viewed}
use Rattle.recognizer_model.specs.Chosen.{AreAllowed}
use Rattle.recognizer_model.proofs.FlatChosen.{written_chosen}
use Rattle.recognizer_model.proofs.Nodes
use Rattle.forest_model.specs.Forest.{Cause, AnEdge, Nothing, Wholes, Alternative, ForestNode, Forest, edges_of, allowed_of, top_of, IsNode, start_place, starts_cmp, ranks_high, rules_cmp, whole_key, IsSplit, IsWholeOver, AreWholes, IsCause, IsPredecessor, AreAlternatives, IsRoot, IsForest}
use Rattle.forest_model.specs.Listing.{IsListing}
use Rattle.forest_laws.specs.Lists.{Lists, cause_symbol, rule_of, prefixes_by, whole_by, causes_by, alternative_by, AreLists, roots_by, trees_by}
use Rattle.forest_laws.specs.Laws.{AreAllSpans, AreAllTrees, AreAllLists, ForestsHaveLists}
use Rattle.forest_laws.proofs.Lists.{flat_map_same, flat_map_both, only_one, get_first}
use Rattle.finite_sets.proofs.Deciding.{moved, true_test, test_true}
use Rattle.finite_sets.proofs.Members.{values, among_filter, among_filter_from, among_from, contains_from, Among}
use Rattle.forest_laws.proofs.Kept.{kept_flat, kept_map, flat_kept}
use Rattle.forest_laws.proofs.Ordered.{sorted_by, within_values}
use Rattle.forest_laws.proofs.Reading
use Rattle.forest_laws.proofs.Reading.{D}
use Rattle.forest_laws.proofs.Allowing.{leaves, over_decided, allowed_decided, rule_test, tree_test, prefix_test, tree_is, prefix_is, is_tree, is_prefix}
use Rattle.forest_laws.proofs.Prefixes.{AllPrefixes, prefix_unique, one_prefix, behind, one_more, nodes_all}
use Rattle.recognizer_model.proofs.Sources.{rule_there}

sorted_as : {X : Type 0} (R S : X → X → Ordering) → ((x y : X) → R x y ≡ S x y) → (xs : List X) → IsStrictlySortedBy R xs → IsStrictlySortedBy S xs
sorted_as R S e xs s = let same : R ≡ S = λ i x y. e x y i in subst (λ c. IsStrictlySortedBy c xs) same s

same_place : (high : Bool) (start end : ℕ) → start_place high start end ≡ place_of high (start == end)
same_place high start end = go high (start == end)
  where
    go : (high b : Bool) → (if b then (if high then 0 else 2) else 1) ≡ place_of high b
    go true true = refl
    go false true = refl
    go high false = refl

same_start : (high : Bool) (end m n : ℕ) → starts_cmp high end m n ≡ at_cmp high end m n
same_start high end m n =
    let a = same_place high m end in
    let b = same_place high n end in
    λ i. ordering_then (nat_cmp (a i) (b i)) (nat_cmp n m)

module _ (f : Forest) (is : IsForest f) where
  abbrev g : FlatGrammar
  g = f.flat

  abbrev F : Grammar.Grammar
  F = grammar_view f.flat

  abbrev E : Edges
  E = edges_of f

  abbrev order : RuleOrder
  order = flat_order f.written f.ranking f.flat

  abbrev flat : IsFlat f.flat
  flat = is.derived.flat

  abbrev pub laws : IsRuleOrder (flat_order f.written f.ranking f.flat)
  laws = Reading.laws f is.derived

  abbrev held_forward : (s p q : ℕ) → Held f.edges s p q → p < q
  held_forward = Reading.held_forward f is.derived

  abbrev pub forward : GoForward (edges_of f)
  forward = Reading.forward f is.derived

  abbrev only : OnlyTerminals f.flat (edges_of f)
  only = Reading.only f is.derived

  abbrev viewed : {x p q : ℕ} {t : Tree} → FlatDerives.Derives g E x p q t → D F E (slot_of x) p q t
  viewed d = Reading.viewed f is.derived d

  abbrev back : (x p q : ℕ) (t : Tree) → D F E (slot_of x) p q t → FlatDerives.Derives g E x p q t
  back = Reading.back f is.derived

  abbrev prefix_viewed : {r d p q : ℕ} {cs : Children} → IsRule g r → Spans g E r d p q cs → DerivesPrefix F E (rule_at F r) p q cs × (child_count cs ≡ d)
  prefix_viewed rule s = Reading.prefix_viewed f is.derived rule s

  abbrev prefix_back : (cs : Children) (r : ℕ) → IsRule g r → (p q : ℕ) → child_count cs ≤ length (rhs_of g r) → DerivesPrefix F E (rule_at F r) p q cs → Spans g E r (child_count cs) p q cs
  prefix_back = Reading.prefix_back f is.derived

  abbrev pub exact : (slot : Slot) (p q : ℕ) → (trees : List Tree) × IsAll F E order slot p q trees
  exact = Reading.exact f is.derived

  abbrev pub All : (r n p q : ℕ) → List Children → Type 0
  All r n p q xs = AllPrefixes F E forward order laws (rule_at F r) (order.null_high r) n p q xs

  abbrev pub spans : (r n p q : ℕ) → (cs : List Children) × All r n p q cs
  spans r n p q = Reading.spans f is.derived r n p q

  -- of the lists of the reading, what is of allowed rules
  abbrev pub kept : (x p q : ℕ) → List Tree
  kept x p q = filter (tree_test f is.derived) (exact (slot_of x) p q).0

  abbrev pub kept_spans : (r n p q : ℕ) → List Children
  kept_spans r n p q = filter (prefix_test f is.derived) (spans r n p q).0

  pub in_kept : (x p q : ℕ) (t : Tree) → Contains (kept x p q) t ↔ (D F E (slot_of x) p q t × AreAllowed (allowed_of f) t)
  in_kept x p q t = (
    λ c. (let (m, e) = among_filter_from (tree_test f is.derived) t (exact (slot_of x) p q).0 (among_from (kept x p q) t c) in
        (((exact (slot_of x) p q).1.each t).0 (contains_from _ t m), tree_is f is.derived t e)),
    λ (d, c). contains_from (kept x p q) t (among_filter (tree_test f is.derived) t (exact (slot_of x) p q).0 (among_from _ t (((exact (slot_of x) p q).1.each t).1 d)) (is_tree f is.derived t c)),
  )

  pub kept_sorted : (x p q : ℕ) → IsStrictlySortedBy (tree_cmp order) (kept x p q)
  kept_sorted x p q = IsStrictlySortedBy-filter (tree_cmp order) (tree_test f is.derived) (exact (slot_of x) p q).0 (exact (slot_of x) p q).1.sorted

  abbrev pub key_list : NodeKey → List Children
  key_list k = kept_spans k.rule k.dot k.origin k.end

  abbrev at : Option ForestNode → List Children
  at None = []
  at (Some node) = key_list node.key

  abbrev pub lists : Lists
  lists n = at (slice_get f.nodes n)

  pub node_list : (n : ℕ) (k : NodeKey) → IsNode f n k → lists n ≡ key_list k
  node_list n k (node, e, h) = ap at e ∙ ap key_list h

  node_rule : (n : ℕ) (k : NodeKey) → IsNode f n k → rule_of (slice_get f.nodes n) ≡ k.rule
  node_rule n k (node, e, h) = ap rule_of e ∙ ap (λ (z : NodeKey). z.rule) h

  -- ---- the last part

  leaf_all : (x p q : ℕ) → E x p q → IsAll F E order (slot_of x) p q (Leaf x p q ∷ [])
  unfolding IsStrictlySortedBy
  leaf_all x p q e = record {
    sorted = (tt, tt);
    each = λ t. (
      λ c. only_one (D F E (slot_of x) p q) (Leaf x p q) t (viewed (Token e)) c,
      λ d. contains_from (Leaf x p q ∷ []) t (inl (one t d)),
    );
  }
    where
      terminal : Grammar.IsTerminal F x
      terminal = terminal_viewed g flat.marks E only flat.no_rules flat.terminals_span x (only x p q e)

      one : (t : Tree) → D F E (slot_of x) p q t → Leaf x p q ≡ t
      one (Leaf s a b) d = λ i. Leaf (sym d.symbol_is i) (sym d.from_is i) (sym d.to_is i)
      one (Nulled s a) d = absurd (nullable_not_terminal F (slot_of x) d.nullable terminal)
      one (Node r cs a b) d = absurd (terminal r d.in_range d.fits.0)

  null_all : (x p q : ℕ) → p ≡ q → IsNullable g x → IsAll F E order (slot_of x) p q (Nulled x p ∷ [])
  unfolding IsStrictlySortedBy
  null_all x p q e n = record {
    sorted = (tt, tt);
    each = λ t. (
      λ c. only_one (D F E (slot_of x) p q) (Nulled x p) t (record { symbol_is = refl; from_is = refl; to_is = e; nullable = nullable_viewed g x n }) c,
      λ d. contains_from (Nulled x p ∷ []) t (inl (one t d)),
    );
  }
    where
      one : (t : Tree) → D F E (slot_of x) p q t → Nulled x p ≡ t
      one (Leaf s a b) d = let h = forward s a b d.held in let z = d.from_is in let z' = d.to_is in absurd (omega arith)
      one (Nulled s a) d = λ i. Nulled (sym d.symbol_is i) (sym d.from_is i)
      one (Node r cs a b) d = let h = d.spans in absurd (omega arith)

  abbrev parts_count : ℕ → ℕ
  parts_count r = length (rhs_of g r)

  -- all rules of a symbol that derive a span, of which some do
  module _ (x p q : ℕ) (spanned : p < q) (rules : List ℕ) (sorted : IsStrictlySortedBy (rules_cmp f) rules) (exactly : (r : ℕ) → Contains rules r ↔ IsWholeOver f x p q r) (some : ℕ) (there : IsWholeOver f x p q some) where
    over : (r : ℕ) → Among r rules → IsWholeOver f x p q r
    over r m = (exactly r).0 (contains_from rules r m)

    fits : (r : ℕ) → IsWholeOver f x p q r → Grammar.Fits (rule_at F r) (slot_of x)
    fits r o = subst (λ z. Grammar.Fits z (slot_of x)) (sym (rule_viewed g r o.is_rule)) (o.left, lit≤ tt)

    fitting : (r : ℕ) → Among r rules → (r < length F.rules) × Grammar.Fits (rule_at F r) (slot_of x) × Grammar.IsChildCount (rule_at F r) (parts_count r)
    fitting r m =
        let o = over r m in
        (in_view g r o.is_rule, fits r o, subst (λ z. Grammar.IsChildCount z (parts_count r)) (sym (rule_viewed g r o.is_rule)) refl)

    inner : Grammar.IsTerminal F x → ⊥
    inner t = t some (in_view g some there.is_rule) (fits some there).0

    no_children : (r : ℕ) (cs : Children) → child_count cs ≡ 0 → DerivesPrefix F E (rule_at F r) p q cs → ⊥
    no_children r NoChild c d = let lt = spanned in omega arith
    no_children r (Child prefix last) c d = omega arith

    enough : (r : ℕ) (cs : Children) → r < length F.rules → Grammar.Fits (rule_at F r) (slot_of x) → Grammar.IsChildCount (rule_at F r) (child_count cs) → DerivesPrefix F E (rule_at F r) p q cs →
        Among r rules × (child_count cs ≡ parts_count r)
    enough r cs lt fit full d = go (kind_of g r lt)
      where
        go : IsKindOf g r → Among r rules × (child_count cs ≡ parts_count r)
        go (inl rule) =
            let e = rule_viewed g r rule in
            let count : child_count cs ≡ parts_count r = subst (λ z. Grammar.IsChildCount z (child_count cs)) e full in
            let s = subst (λ k. Spans g E r k p q cs) count (prefix_back cs r rule p q (omega (arith, count)) d) in
            let left : lhs_of g r ≡ x = (subst (λ z. Grammar.Fits z (slot_of x)) e fit).0 in
            (among_from rules r ((exactly r).1 (record { is_rule = rule; left = left; children = cs; spans = s })), count)
        go (inr (y, m, e)) =
            let count : child_count cs ≡ 0 = subst (λ z. Grammar.IsChildCount z (child_count cs)) e full in
            absurd (no_children r cs count d)

    abbrev each_rule : ℕ → List Tree
    each_rule r = map (λ cs. Node r cs p q) (spans r (parts_count r) p q).0

    abbrev each_kept : ℕ → List Tree
    each_kept r = map (λ cs. Node r cs p q) (kept_spans r (parts_count r) p q)

    all_rules : (exact (slot_of x) p q).0 ≡ flat_map each_rule rules
    all_rules = all_unique F E order laws (slot_of x) p q _ _ (exact (slot_of x) p q).1
        (nodes_all F E forward order laws exact (slot_of x) p q spanned inner parts_count (rules_cmp f) (λ r s. refl) rules sorted fitting enough)

    by_rules : kept x p q ≡ flat_map each_kept (filter (λ r. rule_test f is.derived r p q) rules)
    by_rules =
        ap (filter (tree_test f is.derived)) all_rules
        ∙ kept_flat (tree_test f is.derived) each_rule rules
        ∙ flat_map_same (λ r. filter (tree_test f is.derived) (each_rule r)) (λ r. cond (rule_test f is.derived r p q) (each_kept r) []) rules
        (λ r m. kept_map (tree_test f is.derived) (rule_test f is.derived r p q) (prefix_test f is.derived) (λ cs. Node r cs p q) (λ cs. refl) (spans r (parts_count r) p q).0)
        ∙ flat_kept (λ r. rule_test f is.derived r p q) each_kept rules

    allowed_rules : (best : List ℕ) → IsStrictlySortedBy (rules_cmp f) best → ((r : ℕ) → Contains best r ↔ (IsWholeOver f x p q r × allowed_of f r p q)) → filter (λ r. rule_test f is.derived r p q) rules ≡ best
    allowed_rules best in_order is_best =
        one_sorted (rules_cmp f) (λ r s a b. (let c = laws.total.antisymm (r, parts_count r) (s, parts_count s) ∙ ap ordering_reverse b in cc)) (filter (λ r. rule_test f is.derived r p q) rules) best
        (IsStrictlySortedBy-filter (rules_cmp f) (λ r. rule_test f is.derived r p q) rules sorted) in_order
        (λ r m. (let (k, e) = among_filter_from (λ r. rule_test f is.derived r p q) r rules m in among_from best r ((is_best r).1 (over r k, true_test (allowed_decided f is.derived r p q) e))))
        (λ r m. (let (o, a) = (is_best r).0 (contains_from best r m) in among_filter (λ r. rule_test f is.derived r p q) r rules (among_from rules r ((exactly r).1 o)) (test_true (allowed_decided f is.derived r p q) a)))

  rules_of : (x p q : ℕ) → (rules : List ℕ) × IsStrictlySortedBy (rules_cmp f) rules × ((r : ℕ) → Contains rules r ↔ IsWholeOver f x p q r)
  rules_of x p q =
      sorted_by (rules_cmp f) (on_total (λ (r : ℕ). (r, length (rhs_of g r))) laws.total) (λ r s e. laws.same_rule r (length (rhs_of g r)) s (length (rhs_of g s)) e)
      (IsWholeOver f x p q) (values (λ i. i) (length g.rules))
      (λ r. moved (λ (rule, (left, (cs, s))). record { is_rule = rule; left = left; children = cs; spans = s }) (λ o. (o.is_rule, (o.left, (o.children, o.spans)))) (over_decided f is.derived x p q r))
      (λ r o. within_values (length g.rules) r o.is_rule)

  wholes_kept : (x p q : ℕ) (nodes : List ℕ) → AreWholes f x p q nodes → flat_map (whole_by f lists p q) nodes ≡ kept x p q
  wholes_kept x p q nodes h =
      let some = h.some in
      let all = h.all in
      let (r, m) = get_first h.rules (omega arith) in
      let there = ((h.exact r).0 (contains_from h.rules r m)).0 in
      let (rules, sorted, exactly) = rules_of x p q in
      same ∙ sym (by_rules x p q h.spans rules sorted exactly r there ∙ ap (flat_map (λ r. map (λ cs. Node r cs p q) (kept_spans r (parts_count r) p q))) (allowed_rules x p q h.spans rules sorted exactly r there h.rules h.sorted h.exact))
    where
      same : flat_map (whole_by f lists p q) nodes ≡ flat_map (λ r. map (λ cs. Node r cs p q) (kept_spans r (parts_count r) p q)) h.rules
      same = flat_map_both (whole_by f lists p q) (λ r. map (λ cs. Node r cs p q) (kept_spans r (parts_count r) p q)) nodes h.rules h.all
          (λ i n r a b. (let k = h.each i n r a b in
          let u = node_rule n (whole_key f r p q) k in
          let v = node_list n (whole_key f r p q) k in
          λ j. map (λ cs. Node (u j) cs p q) (v j)))

  last_kept : (x p q : ℕ) (l : Cause) → IsCause f x p q l → causes_by f lists x p q l ≡ kept x p q
  last_kept x p q AnEdge h = ap (filter (tree_test f is.derived)) (all_unique F E order laws (slot_of x) p q _ _ (leaf_all x p q h) (exact (slot_of x) p q).1)
  last_kept x p q Nothing h = ap (filter (tree_test f is.derived)) (all_unique F E order laws (slot_of x) p q _ _ (null_all x p q h.0 h.1) (exact (slot_of x) p q).1)
  last_kept x p q (Wholes nodes) h = wholes_kept x p q nodes h

  -- ---- a node

  prefix_same : (r d p m : ℕ) (prefix : Option ℕ) → IsPredecessor f r d p m prefix → prefixes_by lists prefix ≡ kept_spans r d p m
  prefix_same r d p m None h =
      ap (filter (prefix_test f is.derived)) (prefix_unique F E forward order laws (rule_at F r) (order.null_high r) d p m (NoChild ∷ []) (spans r d p m).0
      (subst (λ k. All r k p m (NoChild ∷ [])) (sym h.0) (subst (λ z. All r 0 p z (NoChild ∷ [])) (sym h.1) (one_prefix F E forward order laws (rule_at F r) (order.null_high r) p))) (spans r d p m).1)
  prefix_same r d p m (Some n) h = node_list n (record { rule = r; dot = d; origin = p; end = m }) h.1

  module _ (key : NodeKey) (alternatives : List Alternative) (a : AreAlternatives f key alternatives) where
    pub is_rule : IsRule g key.rule
    is_rule = rule_there g.rules key.rule a.dot a.symbol a.part

    part_is : (a.dot < length (rhs_of g key.rule)) × (slice_index_or (rhs_of g key.rule) a.dot 0 ≡ a.symbol)
    part_is = get_index (rhs_of g key.rule) a.dot 0 a.symbol a.part

    pub symbol_is : cause_symbol f key ≡ a.symbol
    symbol_is = let e : key.dot - 1 ≡ a.dot = (let h = a.dot_is in omega arith) in ap (λ d. slice_index_or (rhs_of g key.rule) d 0) e ∙ part_is.1

    slot_is : child_slot (rule_at F key.rule) a.dot ≡ slot_of a.symbol
    slot_is = ap (λ z. child_slot z a.dot) (rule_viewed g key.rule is_rule) ∙ ap slot_of (Rattle.recognizer_model.proofs.Views.get_index (rhs_of g key.rule) a.dot a.symbol a.part).1

    abbrev starts : List ℕ
    starts = map (λ (z : Alternative). z.start) alternatives

    abbrev before : (m : ℕ) → (cs : List Children) × All key.rule a.dot key.origin m cs
    before m = spans key.rule a.dot key.origin m

    split_of : (m : ℕ) (cs : Children) (t : Tree) → DerivesPrefix F E (rule_at F key.rule) key.origin m cs → child_count cs ≡ a.dot → D F E (slot_of a.symbol) m key.end t → IsSplit f key.rule a.dot key.origin a.symbol m key.end
    split_of m cs t d e h = record {
      children = cs;
      predecessor = subst (λ k. Spans g E key.rule k key.origin m cs) e (prefix_back cs key.rule is_rule key.origin m (let lt = part_is.0 in omega (arith, e)) d);
      tree = t;
      cause = back a.symbol m key.end t h;
    }

    made : All key.rule (suc a.dot) key.origin key.end (flat_map (behind F E forward order laws exact (slot_of a.symbol) key.end (λ r. (before r).0)) starts)
    made = one_more F E forward order laws exact (rule_at F key.rule) (order.null_high key.rule) a.dot (slot_of a.symbol) slot_is key.origin key.end before starts
        (sorted_as _ _ (same_start (ranks_high f key.rule) key.end) starts a.sorted)
        (λ m cs t d e h. among_from starts m ((a.exact m).1 (split_of m cs t d e h)))

    key_is : (spans key.rule key.dot key.origin key.end).0 ≡ flat_map (behind F E forward order laws exact (slot_of a.symbol) key.end (λ r. (before r).0)) starts
    key_is = prefix_unique F E forward order laws (rule_at F key.rule) (order.null_high key.rule) key.dot key.origin key.end _ _
        (spans key.rule key.dot key.origin key.end).1
        (subst (λ d. All key.rule d key.origin key.end (flat_map (behind F E forward order laws exact (slot_of a.symbol) key.end (λ r. (before r).0)) starts)) (sym a.dot_is) made)

    -- of a prefix with a last part the test is of both
    behind_kept : (m : ℕ) → filter (prefix_test f is.derived) (behind F E forward order laws exact (slot_of a.symbol) key.end (λ r. (before r).0) m)
        ≡ flat_map (λ cs. map (Child cs) (kept a.symbol m key.end)) (kept_spans key.rule a.dot key.origin m)
    behind_kept m =
        kept_flat (prefix_test f is.derived) (λ cs. map (Child cs) (exact (slot_of a.symbol) m key.end).0) (before m).0
        ∙ flat_map_same (λ cs. filter (prefix_test f is.derived) (map (Child cs) (exact (slot_of a.symbol) m key.end).0)) (λ cs. cond (prefix_test f is.derived cs) (map (Child cs) (kept a.symbol m key.end)) []) (before m).0
        (λ cs i. kept_map (prefix_test f is.derived) (prefix_test f is.derived cs) (tree_test f is.derived) (Child cs) (λ t. refl) (exact (slot_of a.symbol) m key.end).0)
        ∙ flat_kept (prefix_test f is.derived) (λ cs. map (Child cs) (kept a.symbol m key.end)) (before m).0

    last_is : (b : Alternative) → Contains alternatives b → causes_by f lists a.symbol b.start key.end b.cause ≡ kept a.symbol b.start key.end
    last_is b c = last_kept a.symbol b.start key.end b.cause (a.each b c).cause

    alternative_is : (b : Alternative) → Among b alternatives →
        filter (prefix_test f is.derived) (behind F E forward order laws exact (slot_of a.symbol) key.end (λ r. (before r).0) b.start) ≡ alternative_by f lists (cause_symbol f key) key.end b
    alternative_is b m =
        let c = contains_from alternatives b m in
        let x = prefix_same key.rule a.dot key.origin b.start b.predecessor (a.each b c).predecessor in
        let y = last_is b c in
        let z : alternative_by f lists a.symbol key.end b ≡ flat_map (λ cs. map (Child cs) (kept a.symbol b.start key.end)) (kept_spans key.rule a.dot key.origin b.start) =
        λ i. flat_map (λ cs. map (Child cs) (y i)) (x i) in
        behind_kept b.start ∙ sym z ∙ sym (ap (λ s. alternative_by f lists s key.end b) symbol_is)

    pub key_by : key_list key ≡ flat_map (alternative_by f lists (cause_symbol f key) key.end) alternatives
    key_by = ap (filter (prefix_test f is.derived)) key_is
        ∙ kept_flat (prefix_test f is.derived) (behind F E forward order laws exact (slot_of a.symbol) key.end (λ r. (before r).0)) starts
        ∙ flat_map-map (λ m. filter (prefix_test f is.derived) (behind F E forward order laws exact (slot_of a.symbol) key.end (λ r. (before r).0) m)) (λ (z : Alternative). z.start) alternatives
        ∙ flat_map_same _ _ alternatives alternative_is

    pub key_all : AreAllSpans f key (key_list key)
    key_all =
        let all = (spans key.rule key.dot key.origin key.end).1 in
        record {
          sorted = IsStrictlySortedBy-filter _ (prefix_test f is.derived) (spans key.rule key.dot key.origin key.end).0 all.sorted;
          exact = λ cs. (
            λ c. (let (m, e) = among_filter_from (prefix_test f is.derived) cs (spans key.rule key.dot key.origin key.end).0 (among_from (key_list key) cs c) in
                let d = (all.each cs).0 m in
                let lt = part_is.0 in
                let dot = a.dot_is in
                let n = d.1 in
                (subst (λ k. Spans g E key.rule k key.origin key.end cs) d.1 (prefix_back cs key.rule is_rule key.origin key.end (omega arith) d.0), prefix_is f is.derived cs e)),
            λ (s, c). contains_from _ cs (among_filter (prefix_test f is.derived) cs (spans key.rule key.dot key.origin key.end).0 ((all.each cs).1 (prefix_viewed is_rule s)) (is_prefix f is.derived cs c)),
          );
        }

    pub last_trees : (b : Alternative) → Contains alternatives b → AreAllTrees f (cause_symbol f key) b.start key.end (causes_by f lists (cause_symbol f key) b.start key.end b.cause)
    last_trees b c = subst (λ s. AreAllTrees f s b.start key.end (causes_by f lists s b.start key.end b.cause)) (sym symbol_is)
        (subst (AreAllTrees f a.symbol b.start key.end) (sym (last_is b c))
        (record {
          sorted = kept_sorted a.symbol b.start key.end;
          exact = λ t. (λ h. (let (d, k) = (in_kept a.symbol b.start key.end t).0 h in (back a.symbol b.start key.end t d, k)), λ (d, k). (in_kept a.symbol b.start key.end t).1 (viewed d, k));
        }))

  pub node_among : (n : ℕ) (node : ForestNode) → slice_get f.nodes n ≡ Some node → Contains f.nodes node
  node_among n node e = contains_from f.nodes node (get_among f.nodes n node e)

  pub equal : AreLists f lists
  equal n node e = ap at e ∙ key_by node.key node.alternatives (is.alternatives node (node_among n node e))

  -- ---- the whole

  abbrev top : ℕ
  top = top_of f

  top_get : slice_get g.tops f.start ≡ Some (top_of f)
  top_get = go g.tops f.start is.derived.start
    where
      go : (xs : List ℕ) (k : ℕ) → k < length xs → slice_get xs k ≡ Some (slice_index_or xs k 0)
      go [] k lt = absurd (omega arith)
      go (x ∷ xs) zero lt = refl
      go (x ∷ xs) (suc k) lt = go xs k (omega arith)

  top_is : IsTopOf f.flat f.start (top_of f)
  top_is = flat.tops f.start top top_get

  abbrev whole_symbol : ℕ
  whole_symbol = lhs_of f.flat (top_of f)

  no_edge : (p q : ℕ) → E whole_symbol p q → ⊥
  no_edge p q (t, e, h) =
      let bad : Some (Terminal t) ≡ Some (Top f.start) = sym e ∙ top_is.symbol in cc

  over_nothing : {x p q : ℕ} {t : Tree} → FlatDerives.Derives g E x p q t → p ≡ q → IsNullable g x
  over_nothing (Token {x = x} {p = p} {q = q} e) same = let lt = forward x p q e in absurd (omega arith)
  over_nothing (Null n) same = n
  over_nothing (Rule rule l lt s) same = absurd (omega arith)

  over_some : {x p q : ℕ} {t : Tree} → FlatDerives.Derives g E x p q t → x ≡ whole_symbol → p < q → IsWholeOver f x p q top
  over_some (Token {x = x} {p = p} {q = q} e) same lt = absurd (no_edge p q (subst (λ z. E z p q) same e))
  over_some (Null n) same lt = absurd (omega arith)
  over_some (Rule {x = x} {p = p} {q = q} {r = r} {cs = cs} rule l h s) same lt =
      let e : r ≡ top = top_is.is_top.alone r rule (l ∙ same) in
      record { is_rule = subst (IsRule g) e rule; left = subst (λ z. lhs_of g z ≡ x) e l; children = cs; spans = subst (λ z. Spans g E z (length (rhs_of g z)) p q cs) e s }

  top_allowed : 0 < f.place → allowed_of f top 0 f.place
  top_allowed lt =
      let (u, d, c) = leaves f is.derived whole_symbol 0 f.place is.derived.tree is.derived.derives in
      Nodes.top_allowed g E (allowed_of f) top top_is.is_top only flat.no_rules d c refl lt

  root_wholes : (n : ℕ) → 0 < f.place → IsNode f n (whole_key f (top_of f) 0 f.place) → AreWholes f whole_symbol 0 f.place (n ∷ [])
  unfolding IsStrictlySortedBy
  root_wholes n lt node = record {
    spans = lt;
    some = omega arith;
    rules = top ∷ [];
    sorted = (tt, tt);
    exact = λ r. (
      λ c. only_one (λ r. IsWholeOver f whole_symbol 0 f.place r × allowed_of f r 0 f.place) top r (over_some is.derived.derives refl lt, top_allowed lt) c,
      λ (o, c). contains_from (top ∷ []) r (inl (sym (top_is.is_top.alone r o.is_rule o.left))),
    );
    all = refl;
    each = one;
  }
    where
      one : (i m r : ℕ) → slice_get (n ∷ []) i ≡ Some m → slice_get (top_of f ∷ []) i ≡ Some r → IsNode f m (whole_key f r 0 f.place)
      one zero m r a b = let a' : n ≡ m = cc in let b' : top_of f ≡ r = cc in subst (λ z. IsNode f z (whole_key f r 0 f.place)) a' (subst (λ z. IsNode f n (whole_key f z 0 f.place)) b' node)
      one (suc i) m r a b = cc

  pub root_kept : (root : Option ℕ) → IsRoot f root → roots_by f lists root ≡ kept whole_symbol 0 f.place
  root_kept None h =
      let e : 0 ≡ f.place = sym h in
      ap (filter (tree_test f is.derived)) (all_unique F E order laws (slot_of whole_symbol) 0 f.place _ _ (null_all whole_symbol 0 f.place e (over_nothing is.derived.derives e)) (exact (slot_of whole_symbol) 0 f.place).1)
  root_kept (Some n) h = sym (append-nil (whole_by f lists 0 f.place n)) ∙ wholes_kept whole_symbol 0 f.place (n ∷ []) (root_wholes n h.0 h.1)

  stands : StandsFor f.written (symbol_at f.flat whole_symbol) (slot_of (slice_index_or f.written.starts f.start 0))
  stands =
      let e : symbol_at f.flat whole_symbol ≡ Top f.start = (get_index f.flat.symbols whole_symbol (Top 0) (Top f.start) top_is.symbol).1 in
      subst (λ s. StandsFor f.written s (slot_of (slice_index_or f.written.starts f.start 0))) (sym e) (slice_index_or f.written.starts f.start 0, start_get, refl)
    where
      go : (xs : List ℕ) (k : ℕ) → k < length xs → slice_get xs k ≡ Some (slice_index_or xs k 0)
      go [] k lt = absurd (omega arith)
      go (x ∷ xs) zero lt = refl
      go (x ∷ xs) (suc k) lt = go xs k (omega arith)

      start_get : slice_get f.written.starts f.start ≡ Some (slice_index_or f.written.starts f.start 0)
      start_get = let h = is.derived.flat_of.tops_all in let lt = is.derived.start in go f.written.starts f.start (omega arith)

  pub listing : IsListing f (trees_by f lists)
  listing =
      let lt = (get_index f.flat.symbols whole_symbol (Top 0) (Top f.start) top_is.symbol).0 in
      subst (λ l. IsListing f (map (tree_of f.written f.flat) l)) (sym (root_kept f.root is.root))
      (written_chosen f.flat f.written flat is.derived.flat_of is.derived.checked (Held f.edges) held_forward f.ranking whole_symbol 0 f.place (slot_of (slice_index_or f.written.starts f.start 0)) (kept whole_symbol 0 f.place) lt stands
      (kept_sorted whole_symbol 0 f.place) (in_kept whole_symbol 0 f.place))

  pub all_lists : AreAllLists f lists
  all_lists = record {
    equal = equal;
    nodes = λ n node e. subst (AreAllSpans f node.key) (sym (ap at e)) (key_all node.key node.alternatives (is.alternatives node (node_among n node e)));
    causes = λ n node b e c. last_trees node.key node.alternatives (is.alternatives node (node_among n node e)) b c;
    listing = listing;
  }

pub forests_have_lists : ForestsHaveLists
forests_have_lists f is = (lists f is, all_lists f is)
