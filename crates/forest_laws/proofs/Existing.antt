-- Each reading with a derivation has a forest: its trees are finitely many, and so are the nodes that stand in them.
use Rattle.std.proofs.Common.{◌≡◌, ℕ, zero, suc, ◌<◌, ◌≤◌, List, [], ◌∷◌, map, length, ◌⊎◌, inl, inr, Option, Some, None, refl, sym, ap, ◌∙◌, subst, arith}
use Rattle.std.specs.Prelude.{◌↔◌, filter, slice_get, Contains}
use Rattle.std.specs.List.{flat_map}
use Rattle.std.specs.List.Sorted.{IsStrictlySortedBy}
use Rattle.std.specs.declared.cmp.Ordering.TheVariants.{Equal}
use Rattle.std.specs.Ordering.{nat_cmp}
use Rattle.std.specs.Cmp.{IsTotalOrder, nat_cmp_total, then_total, on_total, back_total}
use Rattle.finite_sets.proofs.Clauses.{nat_cmp-Equal, then_equal}
use Rattle.finite_sets.proofs.Lists.{get_map, among_get, get_index}
use Rattle.grammar_model.specs.Trees.{Tree, Children, Node}
use Rattle.finite_sets.specs.Decided.{IsDecided}
use Rattle.finite_sets.proofs.Deciding.{both, moved, equal}
use Rattle.finite_sets.proofs.Members
use Rattle.finite_sets.proofs.Members.{values, once_pairs, listed, among_filter, among_filter_from, among_from, contains_from, among_flat_map, among_flat_map_from, Among}
use Rattle.recognizer_model.specs.declared.NodeKey.{NodeKey}
use Rattle.recognizer_model.specs.declared.flat.FlatSymbol.TheVariants.{Terminal}
use Rattle.recognizer_model.specs.Flat.{FlatGrammar, IsRule, lhs_of, rhs_of, part_of, IsNullable}
use Rattle.recognizer_model.specs.FlatDerives.{Derives, Spans, Token, Null, Rule, More}
use Rattle.recognizer_model.specs.FlatDerives
use Rattle.recognizer_model.specs.Counts.{IsListOf}
use Rattle.recognizer_model.specs.Contexts.{IsTop}
use Rattle.recognizer_model.specs.Chosen.{AreAllowed}
use Rattle.recognizer_model.specs.Nodes.{IsUsed, IsMet, Whole, Before, Last}
use Rattle.recognizer_model.proofs.Nodes.{used_are_met}
use Rattle.forest_model.specs.Forest.{AnEdge, Nothing, Wholes, Alternative, ForestNode, Forest, edges_of, allowed_of, top_of, IsNode, start_place, starts_cmp, ranks_high, rules_cmp, whole_key, IsSplit, IsWholeOver, AreWholes, IsCause, IsPredecessor, IsAlternative, AreAlternatives, IsDerived, IsRoot, IsForest}
use Rattle.forest_model.specs.Forest
use Rattle.forest_laws.specs.Laws.{with_nodes, ForestsExist}
use Rattle.forest_laws.proofs.Reading.{laws, forward, only, spans, trees_of, tree_in, in_trees, span_in, in_spans}
use Rattle.forest_laws.proofs.Ordered.{sorted_by, within_values}
use Rattle.forest_laws.proofs.Allowing.{some_or_none, leaves, over_decided, allowed_decided, tree_test, tree_is, is_tree}
use Rattle.forest_laws.proofs.Chosen.{chosen, Paired, paired_length, paired_get, paired_at, paired_map, paired_from}
use Rattle.forest_laws.proofs.Used.{nodes_in, in_tree, from_tree, first_in}
use Rattle.forest_laws.proofs.Moved.{alternatives_to}
use Rattle.recognizer_model.proofs.Sources.{rule_there}

pub same_key : (x y : NodeKey) → IsDecided (x ≡ y)
same_key x y =
    moved (λ (a, (b, (c, d))) i. record { rule = a i; dot = b i; origin = c i; end = d i })
    (λ e. (ap (λ (u : NodeKey). u.rule) e, (ap (λ (u : NodeKey). u.dot) e, (ap (λ (u : NodeKey). u.origin) e, ap (λ (u : NodeKey). u.end) e))))
    (both (equal x.rule y.rule) (both (equal x.dot y.dot) (both (equal x.origin y.origin) (equal x.end y.end))))

starts_total : (high : _) (end : ℕ) → IsTotalOrder (λ (m n : ℕ). starts_cmp high end m n)
starts_total high end = then_total (on_total (λ (m : ℕ). start_place high m end) nat_cmp_total) (back_total nat_cmp_total)

starts_one : (high : _) (end m n : ℕ) → starts_cmp high end m n ≡ Equal → m ≡ n
starts_one high end m n e = sym (nat_cmp-Equal n m (then_equal (nat_cmp (start_place high m end) (start_place high n end)) (nat_cmp n m) e).1)

module _ (f : Forest) (derived : IsDerived f) where
  abbrev g : FlatGrammar
  g = f.flat

  abbrev top : ℕ
  top = top_of f

  abbrev Used : NodeKey → Type 0
  Used = IsUsed f.flat (edges_of f) (allowed_of f) (top_of f) f.place

  abbrev trees : List Tree
  trees = filter (tree_test f derived) (trees_of f derived (lhs_of f.flat (top_of f)) 0 f.place)

  -- ---- the keys

  keys_all : (keys : List NodeKey) × IsListOf Used keys
  keys_all =
      let (keys, (once, is, all)) = listed (λ (k : NodeKey). Unit {0}) same_key (flat_map nodes_in trees) (λ k m. inl tt) in
      (keys, record { once = once_pairs keys once; exact = λ k. (λ c. used k (convert k (is k (Members.among_from keys k c)).0), λ u. Members.contains_from keys k (all k (convert_back k (found k u)) tt)) })
    where
      convert : (k : NodeKey) → Members.Among k (flat_map nodes_in trees) → Among k (flat_map nodes_in trees)
      convert k m = among_from (flat_map nodes_in trees) k (Members.contains_from (flat_map nodes_in trees) k m)

      convert_back : (k : NodeKey) → Among k (flat_map nodes_in trees) → Members.Among k (flat_map nodes_in trees)
      convert_back k m = Members.among_from (flat_map nodes_in trees) k (contains_from (flat_map nodes_in trees) k m)

      used : (k : NodeKey) → Among k (flat_map nodes_in trees) → Used k
      used k m =
          let (t, i, n) = among_flat_map_from nodes_in k trees m in
          let s = from_tree t k n in
          let (j, e) = among_filter_from (tree_test f derived) t (trees_of f derived (lhs_of g top) 0 f.place) i in
          record { tree = t; derives = in_trees f derived (lhs_of g top) 0 f.place t j; chosen = tree_is f derived t e; children = s.children; has = s.has; dot_is = s.dot_is; some = s.some }

      found : (k : NodeKey) → Used k → Among k (flat_map nodes_in trees)
      found k u = among_flat_map nodes_in u.tree k trees (among_filter (tree_test f derived) u.tree (trees_of f derived (lhs_of g top) 0 f.place) (tree_in f derived u.derives) (is_tree f derived u.tree u.chosen))
          (in_tree u.has k (first_in k.rule k.origin k.end u.children k refl refl refl u.dot_is u.some))

  abbrev keys : List NodeKey
  keys = keys_all.0

  abbrev bare : Forest
  bare = with_nodes f (map (λ k. record { key = k; alternatives = [] }) keys) None

  number : (k : NodeKey) → Used k → (n : ℕ) × IsNode bare n k
  number k u =
      let (n, e) = among_get keys k (among_from keys k ((keys_all.1.exact k).1 u)) in
      (n, (record { key = k; alternatives = [] }, get_map (λ k. record { key = k; alternatives = [] }) keys n k e, refl))

  -- ---- what is met

  is_top : IsTop f.flat (top_of f)
  is_top = (derived.flat.tops f.start top (go g.tops f.start derived.start)).is_top
    where
      go : (xs : List ℕ) (k : ℕ) → k < length xs → slice_get xs k ≡ Some (Rattle.std.specs.Prelude.slice_index_or xs k 0)
      go [] k lt = absurd (omega arith)
      go (x ∷ xs) zero lt = refl
      go (x ∷ xs) (suc k) lt = go xs k (omega arith)

  met : (k : NodeKey) → Used k → (0 < k.dot) × IsMet g (edges_of f) (allowed_of f) top f.place k.rule k.dot k.origin k.end
  met k u = (used_are_met g (edges_of f) (allowed_of f) top is_top (only f derived) derived.flat.no_rules (leaves f derived) f.place k).0 u

  use_of : (k : NodeKey) → 0 < k.dot → IsMet g (edges_of f) (allowed_of f) top f.place k.rule k.dot k.origin k.end → Used k
  use_of k lt m = (used_are_met g (edges_of f) (allowed_of f) top is_top (only f derived) derived.flat.no_rules (leaves f derived) f.place k).1 (lt, m)

  met_spans : {r d p q : ℕ} → IsMet g (edges_of f) (allowed_of f) top f.place r d p q → (cs : Children) × Spans g (edges_of f) r d p q cs
  met_spans (Whole {cs = cs} lt s) = (cs, s)
  met_spans (Before {cs = cs} m s e d) = (cs, s)
  met_spans (Last {cs' = cs} m s e rule lt s' a) = (cs, s')

  whole_spans : {x q : ℕ} {t : Tree} → Derives g (edges_of f) x 0 q t → x ≡ lhs_of g top → 0 < q → (cs : Children) × Spans g (edges_of f) top (length (rhs_of g top)) 0 q cs
  whole_spans (Token (t, is, e)) same lt = absurd (derived.flat.no_rules top is_top.is_rule (t, subst (λ z. slice_get g.symbols z ≡ Some (Terminal t)) same is))
  whole_spans (Null n) same lt = absurd (omega arith)
  whole_spans (Rule {q = q} {r = r} {cs = cs} rule l h s) same lt =
      let e : r ≡ top = is_top.alone r rule (l ∙ same) in
      (cs, subst (λ z. Spans g (edges_of f) z (length (rhs_of g z)) 0 q cs) e s)

  part_there : {r n p q : ℕ} {cs : Children} → Spans g (edges_of f) r n p q cs → 0 < n → (d : ℕ) × (x : ℕ) × (n ≡ suc d) × (part_of g r d ≡ Some x)
  part_there FlatDerives.Nothing lt = absurd (omega arith)
  part_there (More {d = d} {x = x} s e t) lt = (d, x, refl, e)

  none_or_some : {r n p m : ℕ} {cs : Children} → Spans g (edges_of f) r n p m cs → ((n ≡ 0) × (m ≡ p)) ⊎ (0 < n)
  none_or_some FlatDerives.Nothing = inl (refl, refl)
  none_or_some (More s e t) = inr (omega arith)

  ahead : {x p q : ℕ} {t : Tree} → Derives g (edges_of f) x p q t → p ≤ q
  ahead (Token {x = x} {p = p} {q = q} e) = let lt = forward f derived x p q e in omega arith
  ahead (Null n) = omega arith
  ahead (Rule rule l lt s) = omega arith

  -- ---- the nodes of whole rules

  whole_decided : (x m q r : ℕ) → IsDecided (IsWholeOver bare x m q r × allowed_of bare r m q)
  whole_decided x m q r =
      both (moved (λ (rule, (left, (cs, s))). record { is_rule = rule; left = left; children = cs; spans = s }) (λ o. (o.is_rule, (o.left, (o.children, o.spans)))) (over_decided f derived x m q r))
      (allowed_decided f derived r m q)

  rules_total : IsTotalOrder (λ (r s : ℕ). rules_cmp bare r s)
  rules_total = on_total (λ (r : ℕ). (r, length (rhs_of g r))) (laws f derived).total

  rules_of : (x m q : ℕ) → (rules : List ℕ) × IsStrictlySortedBy (rules_cmp bare) rules × ((r : ℕ) → Contains rules r ↔ (IsWholeOver bare x m q r × allowed_of bare r m q))
  rules_of x m q =
      sorted_by (rules_cmp bare) rules_total (λ r s e. (laws f derived).same_rule r (length (rhs_of g r)) s (length (rhs_of g s)) e)
      (λ r. IsWholeOver bare x m q r × allowed_of bare r m q) (values (λ i. i) (length g.rules)) (whole_decided x m q) (λ r (o, a). within_values (length g.rules) r o.is_rule)

  -- of the rules that derive a span some are allowed
  some_allowed : {x m q : ℕ} {t : Tree} → Derives g (edges_of f) x m q t → AreAllowed (allowed_of f) t → m < q → (r : ℕ) → IsWholeOver bare x m q r → (r' : ℕ) × IsWholeOver bare x m q r' × allowed_of bare r' m q
  some_allowed (Token (t, is, e)) a lt r o = absurd (derived.flat.no_rules r o.is_rule (t, subst (λ z. slice_get g.symbols z ≡ Some (Terminal t)) (sym o.left) is))
  some_allowed (Null n) a lt r o = absurd (omega arith)
  some_allowed (Rule {r = r'} {cs = cs} rule l h s) a lt r o = (r', record { is_rule = rule; left = l; children = cs; spans = s }, a.0)

  abbrev IsCausePart : (x m q : ℕ) → Type 0
  IsCausePart x m q = edges_of f x m q ⊎ (((m ≡ q) × IsNullable g x) ⊎ ((m < q) × ((r : ℕ) × IsWholeOver bare x m q r)))

  cause_at : {x m q : ℕ} {t : Tree} → Derives g (edges_of f) x m q t → IsCausePart x m q
  cause_at (Token e) = inl e
  cause_at (Null n) = inr (inl (refl, n))
  cause_at (Rule {r = r} {cs = cs} rule l lt s) = inr (inr (lt, (r, record { is_rule = rule; left = l; children = cs; spans = s })))

  -- ---- the alternatives of a key

  module _ (r d p q x : ℕ) (here : IsMet g (edges_of f) (allowed_of f) top f.place r (suc d) p q) (part : part_of g r d ≡ Some x) where
    abbrev Split : ℕ → Type 0
    Split m = IsSplit bare r d p x m q

    is_rule : IsRule g r
    is_rule = rule_there g.rules r d x part

    split_decided : (m : ℕ) → IsDecided (IsSplit bare r d p x m q)
    split_decided m = go (some_or_none (spans f derived r d p m).0) (some_or_none (trees_of f derived x m q))
      where
        go : ((cs : Children) × Among cs (spans f derived r d p m).0) ⊎ ((cs : Children) → Among cs (spans f derived r d p m).0 → ⊥) →
            ((t : Tree) × Among t (trees_of f derived x m q)) ⊎ ((t : Tree) → Among t (trees_of f derived x m q) → ⊥) → IsDecided (IsSplit bare r d p x m q)
        go (inl (cs, i)) (inl (t, j)) =
            let lt = (get_index (rhs_of g r) d 0 x part).0 in
            inl (record { children = cs; predecessor = in_spans f derived r d p m cs is_rule (omega arith) i; tree = t; cause = in_trees f derived x m q t j })
        go (inr none) b = inr (λ s. none s.children (span_in f derived is_rule s.predecessor))
        go a (inr none) = inr (λ s. none s.tree (tree_in f derived s.cause))

    starts : (starts : List ℕ) × IsStrictlySortedBy (starts_cmp (ranks_high bare r) q) starts × ((m : ℕ) → Contains starts m ↔ IsSplit bare r d p x m q)
    starts = sorted_by (starts_cmp (ranks_high bare r) q) (starts_total (ranks_high bare r) q) (starts_one (ranks_high bare r) q) (λ m. IsSplit bare r d p x m q) (values (λ i. i) (suc q)) split_decided
        (λ m s. within_values (suc q) m (let le = ahead s.cause in omega arith))

    abbrev prefix_key : ℕ → NodeKey
    prefix_key m = record { rule = r; dot = d; origin = p; end = m }

    prefix_for : (m : ℕ) → IsSplit bare r d p x m q → (prefix : Option ℕ) × IsPredecessor bare r d p m prefix
    prefix_for m s = go (none_or_some s.predecessor)
      where
        go : ((d ≡ 0) × (m ≡ p)) ⊎ (0 < d) → (prefix : Option ℕ) × IsPredecessor bare r d p m prefix
        go (inl none) = (None, none)
        go (inr some) =
            let (n, node) = number (prefix_key m) (use_of (prefix_key m) some (Before here s.predecessor part s.cause)) in
            (Some n, (some, node))

    wholes_for : (m : ℕ) → IsSplit bare r d p x m q → m < q → (r' : ℕ) → IsWholeOver bare x m q r' → (nodes : List ℕ) × AreWholes bare x m q nodes
    wholes_for m s lt r' over =
        let (rules, sorted, exact) = rules_of x m q in
        let (nodes, pairs) = chosen (λ rule n. IsNode bare n (whole_key bare rule m q)) rules (λ rule i. numbered rule ((exact rule).0 (contains_from rules rule i))) in
        let all = paired_length (λ rule n. IsNode bare n (whole_key bare rule m q)) rules nodes pairs in
        let (u, d', a') = leaves f derived x m q (Node r' over.children m q) (Rule over.is_rule over.left lt over.spans) in
        let (best, whole, allowed) = some_allowed d' a' lt r' over in
        let there = (exact best).1 (whole, allowed) in (
          nodes,
          record {
            spans = lt;
            some = let k = there.1 in omega (arith, k, all);
            rules = rules;
            sorted = sorted;
            exact = exact;
            all = all;
            each = λ i n rule a b. paired_get (λ rule n. IsNode bare n (whole_key bare rule m q)) rules nodes pairs i rule n a b;
          },
        )
      where
        numbered : (rule : ℕ) → IsWholeOver bare x m q rule × allowed_of bare rule m q → (n : ℕ) × IsNode bare n (whole_key bare rule m q)
        numbered rule (o, a) = number (whole_key bare rule m q) (use_of (whole_key bare rule m q) (derived.flat.some rule o.is_rule) (Last here s.predecessor (part ∙ ap Some (sym o.left)) o.is_rule lt o.spans a))

    last_for : (m : ℕ) → IsSplit bare r d p x m q → (last : Forest.Cause) × IsCause bare x m q last
    last_for m s = go (cause_at s.cause)
      where
        go : IsCausePart x m q → (last : Forest.Cause) × IsCause bare x m q last
        go (inl e) = (AnEdge, e)
        go (inr (inl n)) = (Nothing, n)
        go (inr (inr (lt, (r', over)))) = let (nodes, w) = wholes_for m s lt r' over in (Wholes nodes, w)

    abbrev Fits : ℕ → Alternative → Type 0
    Fits m a = (a.start ≡ m) × IsAlternative bare r d p x q a

    alternative_for : (m : ℕ) → IsSplit bare r d p x m q → (a : Alternative) × Fits m a
    alternative_for m s =
        let (prefix, is_prefix) = prefix_for m s in
        let (last, is_last) = last_for m s in
        (record { start = m; predecessor = prefix; cause = last }, (refl, record { predecessor = is_prefix; cause = is_last }))

    alternatives_of : (alternatives : List Alternative) × AreAlternatives bare (record { rule = r; dot = suc d; origin = p; end = q }) alternatives
    alternatives_of =
        let (from, sorted, exact) = starts in
        let (alternatives, pairs) = chosen Fits from (λ m i. alternative_for m ((exact m).0 (contains_from from m i))) in
        let same : from ≡ map (λ (a : Alternative). a.start) alternatives = sym (paired_map Fits (λ (a : Alternative). a.start) (λ m a fits. fits.0) from alternatives pairs) in (
          alternatives,
          record {
            dot = d;
            dot_is = refl;
            symbol = x;
            part = part;
            sorted = subst (IsStrictlySortedBy (starts_cmp (ranks_high bare r) q)) same sorted;
            exact = subst (λ l. (m : ℕ) → Contains l m ↔ IsSplit bare r d p x m q) same exact;
            each = λ a c. (let (m, i, fits) = paired_from Fits from alternatives pairs a (among_from alternatives a c) in fits.1);
          },
        )

  alternatives_for : (k : NodeKey) → Used k → (alternatives : List Alternative) × AreAlternatives bare k alternatives
  alternatives_for k u =
      let (lt, here) = met k u in
      let (cs, s) = met_spans here in
      let (d, x, e, part) = part_there s lt in
      subst (λ n. (alternatives : List Alternative) × AreAlternatives bare (record { rule = k.rule; dot = n; origin = k.origin; end = k.end }) alternatives) (sym e)
      (alternatives_of k.rule d k.origin k.end x (subst (λ n. IsMet g (edges_of f) (allowed_of f) top f.place k.rule n k.origin k.end) e here) part)

  -- ---- the forest

  abbrev IsNodeOf : NodeKey → ForestNode → Type 0
  IsNodeOf k node = (node.key ≡ k) × AreAlternatives bare k node.alternatives

  nodes_all : (nodes : List ForestNode) × Paired IsNodeOf keys nodes
  nodes_all = chosen IsNodeOf keys (λ k i.
      (let (alternatives, are) = alternatives_for k ((keys_all.1.exact k).0 (contains_from keys k i)) in
      (record { key = k; alternatives = alternatives }, (refl, are))))

  abbrev nodes : List ForestNode
  nodes = nodes_all.0

  get_back : {X Y : Type 0} (h : X → Y) (xs : List X) (n : ℕ) (y : Y) → slice_get (map h xs) n ≡ Some y → (x : X) × (slice_get xs n ≡ Some x) × (h x ≡ y)
  get_back h [] n y e = cc
  get_back h (x ∷ xs) zero y e = let d : h x ≡ y = cc in (x, refl, d)
  get_back h (x ∷ xs) (suc n) y e = get_back h xs n y e

  node_to : (root : Option ℕ) (n : ℕ) (k : NodeKey) → IsNode bare n k → IsNode (with_nodes f nodes root) n k
  node_to root n k (node, e, same) =
      let (k', at, is) = get_back (λ (k : NodeKey). record { key = k; alternatives = [] }) keys n node e in
      let (node', at', (same', are)) = paired_at IsNodeOf keys nodes nodes_all.1 n k' at in
      (node', at', same' ∙ ap (λ (z : ForestNode). z.key) is ∙ same)

  root_for : (root : Option ℕ) × IsRoot (with_nodes f nodes root) root
  root_for = go (equal f.place 0)
    where
      go : IsDecided (f.place ≡ 0) → (root : Option ℕ) × IsRoot (with_nodes f nodes root) root
      go (inl none) = (None, none)
      go (inr some) =
          let lt : 0 < f.place = omega arith in
          let (cs, s) = whole_spans derived.derives refl lt in
          let (n, node) = number (whole_key bare top 0 f.place) (use_of (whole_key bare top 0 f.place) (derived.flat.some top is_top.is_rule) (Whole lt s)) in
          (Some n, (lt, node_to (Some n) n (whole_key bare top 0 f.place) node))

  pub a_forest : (nodes : List ForestNode) × (root : Option ℕ) × IsForest (with_nodes f nodes root)
  a_forest =
      let (root, is_root) = root_for in (
        nodes,
        root,
        record {
          derived = record { checked = derived.checked; flat = derived.flat; flat_of = derived.flat_of; start = derived.start; forward = derived.forward; tree = derived.tree; derives = derived.derives };
          used = subst (IsListOf Used) (sym (paired_map IsNodeOf (λ (n : ForestNode). n.key) (λ k n fits. fits.0) keys nodes nodes_all.1)) keys_all.1;
          alternatives = λ n c. (let (k, i, (same, are)) = paired_from IsNodeOf keys nodes nodes_all.1 n (among_from nodes n c) in
              alternatives_to f bare.nodes nodes None root (node_to root) n.key n.alternatives (subst (λ z. AreAlternatives bare z n.alternatives) (sym same) are));
          root = is_root;
        },
      )

pub forests_exist : ForestsExist
forests_exist f derived = a_forest f derived
