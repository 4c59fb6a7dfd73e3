-- The nodes of a forest stand for nothing else: each list that a node stands for is made of smaller child lists.
use Rattle.std.proofs.Common.{◌≡◌, ℕ, zero, suc, ◌<◌, ◌+◌, List, [], ◌∷◌, map, ◌⊎◌, inl, inr, Option, Some, None, refl, sym, ap, ◌∙◌, subst, arith}
use Rattle.std.specs.Prelude.{slice_get, Contains}
use Rattle.std.specs.List.{flat_map}
use Rattle.finite_sets.proofs.Members.{among_from, contains_from, Among, among_map}
use Rattle.finite_sets.proofs.Lists.{get_among, among_get, get_some}
use Rattle.grammar_model.specs.Trees.{Tree, Children, Leaf, Nulled, Node, NoChild, Child}
use Rattle.recognizer_model.specs.declared.NodeKey.{NodeKey}
use Rattle.recognizer_model.specs.FlatDerives.{Derives, Spans, Rule, More}
use Rattle.recognizer_model.specs.Chosen.{AreAllowed, AreAllowedIn}
use Rattle.recognizer_model.proofs.Leaving.{prefix_some}
use Rattle.forest_model.specs.Forest.{Cause, AnEdge, Nothing, Wholes, Alternative, ForestNode, Forest, edges_of, allowed_of, IsNode, whole_key, IsSplit, IsCause, IsPredecessor, AreAlternatives, IsForest}
use Rattle.forest_laws.specs.Lists.{Lists, cause_symbol, rule_of, prefixes_by, whole_by, causes_by, alternative_by, node_by, AreLists}
use Rattle.forest_laws.specs.Laws.{ListsAreOne}
use Rattle.forest_laws.proofs.Lists.{flat_map_same, get_there}
use Rattle.forest_laws.proofs.Allowing.{leaves}
use Rattle.forest_laws.proofs.Exact.{lists, key_list, equal, key_all, symbol_is, node_among}

abbrev mutual
  tree_size : Tree → ℕ
  tree_size (Leaf symbol from to) = 0
  tree_size (Nulled symbol at) = 0
  tree_size (Node rule children from to) = suc (size children)

  size : Children → ℕ
  size NoChild = 0
  size (Child prefix last) = suc (size prefix + tree_size last)

module _ (f : Forest) (is : IsForest f) (others : Lists) (are : AreLists f others) where
  -- the node's child lists are smaller than k
  abbrev Below : ℕ → ForestNode → Type 0
  Below k node = (cs : Children) → Among cs (key_list f is node.key) → size cs < k

  -- what is known of smaller ones
  abbrev Known : ℕ → Type 0
  Known k = (n : ℕ) (node : ForestNode) → slice_get f.nodes n ≡ Some node → 0 < k → ((cs : Children) → Among cs (key_list f is node.key) → suc (size cs) < k) → others n ≡ lists f is n

  module _ (k : ℕ) (known : Known k) (node : ForestNode) (a : AreAlternatives f node.key node.alternatives) (below : Below k node) where
    member : (m : ℕ) (cs : Children) (t : Tree) → Spans f.flat (edges_of f) node.key.rule a.dot node.key.origin m cs × AreAllowedIn (allowed_of f) cs →
        Derives f.flat (edges_of f) a.symbol m node.key.end t × AreAllowed (allowed_of f) t → size (Child cs t) < k
    member m cs t (s, c) (d, c') =
        let whole = subst (λ n. Spans f.flat (edges_of f) node.key.rule n node.key.origin node.key.end (Child cs t)) (sym a.dot_is) (More s a.part d) in
        below (Child cs t) (among_from _ (Child cs t) (((key_all f is node.key node.alternatives a).exact (Child cs t)).1 (whole, (c, c'))))

    -- a node of the forest whose child lists stand within those of this node
    within : (n : ℕ) (key : NodeKey) → IsNode f n key → 0 < k → ((cs : Children) → Spans f.flat (edges_of f) key.rule key.dot key.origin key.end cs × AreAllowedIn (allowed_of f) cs → suc (size cs) < k) → others n ≡ lists f is n
    within n key (inner, e, same) some smaller = known n inner e some
        (λ cs m. smaller cs (subst (λ (z : NodeKey). Spans f.flat (edges_of f) z.rule z.dot z.origin z.end cs × AreAllowedIn (allowed_of f) cs) same
        (((key_all f is inner.key inner.alternatives (is.alternatives inner (node_among f is n inner e))).exact cs).0 (contains_from _ cs m))))

    module _ (m : ℕ) (split : IsSplit f node.key.rule a.dot node.key.origin a.symbol m node.key.end) where
      -- a prefix and a last part of allowed rules
      prefix_there : (cs : Children) × (Spans f.flat (edges_of f) node.key.rule a.dot node.key.origin m cs × AreAllowedIn (allowed_of f) cs)
      prefix_there = let (cs, s, c) = prefix_some f.flat (edges_of f) (allowed_of f) (leaves f is.derived) split.predecessor in (cs, (s, c))

      last_there : (t : Tree) × (Derives f.flat (edges_of f) a.symbol m node.key.end t × AreAllowed (allowed_of f) t)
      last_there = let (t, d, c) = leaves f is.derived a.symbol m node.key.end split.tree split.cause in (t, (d, c))

      some : 0 < k
      some = let lt = member m prefix_there.0 last_there.0 prefix_there.1 last_there.1 in omega arith

      prefix_one : (prefix : Option ℕ) → IsPredecessor f node.key.rule a.dot node.key.origin m prefix → prefixes_by others prefix ≡ prefixes_by (lists f is) prefix
      prefix_one None h = refl
      prefix_one (Some n) h = within n (record { rule = node.key.rule; dot = a.dot; origin = node.key.origin; end = m }) h.1 some
          (λ cs s. (let lt = member m cs last_there.0 s last_there.1 in larger cs last_there.0 lt))
        where
          larger : (cs : Children) (t : Tree) → size (Child cs t) < k → suc (size cs) < k
          larger cs t lt = omega arith

      last_one : (l : Cause) → IsCause f a.symbol m node.key.end l → causes_by f others a.symbol m node.key.end l ≡ causes_by f (lists f is) a.symbol m node.key.end l
      last_one AnEdge h = refl
      last_one Nothing h = refl
      last_one (Wholes nodes) h = flat_map_same (whole_by f others m node.key.end) (whole_by f (lists f is) m node.key.end) nodes
          (λ n i. ap (map (λ cs. Node (rule_of (slice_get f.nodes n)) cs m node.key.end)) (whole_one n i))
        where
          larger : (r : ℕ) (cs ds : Children) → size (Child ds (Node r cs m node.key.end)) < k → suc (size cs) < k
          larger r cs ds lt = omega arith

          whole_one : (n : ℕ) → Among n nodes → others n ≡ lists f is n
          whole_one n i =
              let (j, e) = among_get nodes n i in
              let (r, e') = get_there nodes h.rules j n h.all e in
              let (over, allowed) = (h.exact r).0 (contains_from h.rules r (get_among h.rules j r e')) in
              within n (whole_key f r m node.key.end) (h.each j n r e e') some
              (λ cs (s, c). larger r cs prefix_there.0 (member m prefix_there.0 (Node r cs m node.key.end) prefix_there.1 (Rule over.is_rule over.left h.spans s, (allowed, c))))

    alternative_one : (b : Alternative) → Among b node.alternatives → alternative_by f others (cause_symbol f node.key) node.key.end b ≡ alternative_by f (lists f is) (cause_symbol f node.key) node.key.end b
    alternative_one b i =
        let c = contains_from node.alternatives b i in
        let s = (a.exact b.start).0 (started node.alternatives b i) in
        let x = prefix_one b.start s b.predecessor (a.each b c).predecessor in
        let y = last_one b.start s b.cause (a.each b c).cause in
        let z : alternative_by f others a.symbol node.key.end b ≡ alternative_by f (lists f is) a.symbol node.key.end b = (λ j. flat_map (λ prefix. map (Child prefix) (y j)) (x j)) in
        subst (λ s. alternative_by f others s node.key.end b ≡ alternative_by f (lists f is) s node.key.end b) (sym (symbol_is f is node.key node.alternatives a)) z
      where
        started : (alternatives : List Alternative) (b : Alternative) → Among b alternatives → Contains (map (λ (z : Alternative). z.start) alternatives) b.start
        started alternatives b i = contains_from _ b.start (among_map (λ (z : Alternative). z.start) b alternatives i)

    node_one : node_by f others node ≡ node_by f (lists f is) node
    node_one = flat_map_same _ _ node.alternatives alternative_one

  step : (k : ℕ) → Known k → (n : ℕ) (node : ForestNode) → slice_get f.nodes n ≡ Some node → Below k node → others n ≡ lists f is n
  step k known n node e below = are n node e ∙ node_one k known node (is.alternatives node (node_among f is n node e)) below ∙ sym (equal f is n node e)

  one : (k n : ℕ) (node : ForestNode) → slice_get f.nodes n ≡ Some node → Below k node → others n ≡ lists f is n
  one zero = step zero (λ n node e some smaller. absurd (omega arith))
  one (suc k) = step (suc k) (λ n node e some smaller. one k n node e (λ cs m. (let lt = smaller cs m in omega arith)))

  -- some number is above all sizes
  above : (xs : List Children) → (k : ℕ) × ((cs : Children) → Among cs xs → size cs < k)
  above [] = (0, λ cs m. absurd m)
  above (x ∷ xs) = let (k, all) = above xs in (suc (size x + k), λ cs m. go k all cs m)
    where
      go : (k : ℕ) → ((cs : Children) → Among cs xs → size cs < k) → (cs : Children) → (x ≡ cs) ⊎ Among cs xs → size cs < suc (size x + k)
      go k all cs (inl e) = let s : size x ≡ size cs = ap size e in omega arith
      go k all cs (inr m) = let lt = all cs m in omega arith

  pub only_one : (n : ℕ) (node : ForestNode) → slice_get f.nodes n ≡ Some node → others n ≡ lists f is n
  only_one n node e = let (k, all) = above (key_list f is node.key) in one k n node e all

pub lists_are_one : ListsAreOne
lists_are_one f is ls others a b n lt =
    let (node, e) = get_some f.nodes n lt in
    only_one f is ls a n node e ∙ sym (only_one f is others b n node e)
