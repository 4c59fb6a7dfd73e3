-- The glades that groups tell are the report.
use Rattle.std.proofs.Common.{◌≡◌, ◌≢◌, ℕ, List, [], ◌∷◌, map, flat_map, length, ◌⊎◌, inl, inr, Some, Contains, refl, sym, ap, ◌∙◌, subst, arith}
use Rattle.std.specs.Prelude.{slice_get, slice_index_or}
use Rattle.std.proofs.lemmas.Option.{slice_get-get_or}
use Rattle.finite_sets.proofs.Lists.{get_among, get_index}
use Rattle.finite_sets.proofs.Members.{Among, among_from, contains_from}
use Rattle.grammar_model.specs.Grammar.{Slot}
use Rattle.grammar_model.specs.Trees.{Tree, Children}
use Rattle.grammar_model.specs.Derives.{Held, Derives}
use Rattle.grammar_model.specs.declared.Ranking.TheVariants.{Rule as RuleRanks}
use Rattle.grammar_model.specs.Order.{rank_order}
use Rattle.grammar_model.specs.All.{IsAll}
use Rattle.grammar_model.proofs.Sorting.{ranks_order}
use Rattle.recognizer_model.specs.declared.NodeKey.{NodeKey}
use Rattle.recognizer_model.specs.declared.flat.FlatSymbol.{FlatSymbol}
use Rattle.recognizer_model.specs.declared.flat.FlatSymbol.TheVariants.{Slot as AtLevel, Top}
use Rattle.recognizer_model.specs.declared.flat.FlatSource.{FlatSource}
use Rattle.recognizer_model.specs.declared.flat.FlatSource.TheVariants.{Written, Top as OfStart}
use Rattle.recognizer_model.specs.Flat.{lhs_of, rhs_of, source_of}
use Rattle.recognizer_model.specs.FlatForm.{symbol_at, tree_of}
use Rattle.recognizer_model.specs.FlatDerives.{Spans}
use Rattle.recognizer_model.specs.Invariant.{HasSource}
use Rattle.forest_model.specs.Forest.{Forest, ForestNode, IsForest, AreWholes, IsWholeOver, edges_of, rules_cmp, whole_key}
use Rattle.forest_laws.specs.Lists.{Lists, AreLists, rule_of, whole_by}
use Rattle.forest_laws.specs.Laws.{AreAllLists}
use Rattle.forest_laws.proofs.Exact.{forests_have_lists}
use Rattle.glade_model.specs.Glades.{Shape, shape_of, Glade, HasShapes, IsGlade, AreGlades}
use Rattle.glade_model.proofs.Reports.{one_shapes}
use Rattle.glade_laws.specs.Walks.{IsFirst, IsOnly, IsSecond}
use Rattle.glade_laws.specs.Walks.IsFirst.{FirstGoes}
use Rattle.glade_laws.specs.Walks.IsSecond.{Here, Below}
use Rattle.glade_laws.specs.Groups.{start_of, IsGroup, shape_at, ComesFrom, AreFirstTwo, IsByGroup, AreByGroups}
use Rattle.glade_laws.specs.Groups.AreFirstTwo.{OfOne, OfTwo}
use Rattle.glade_laws.proofs.Walked.{Kinds, written_starts, first_is}
use Rattle.glade_laws.proofs.NodeKinds.{kinds, sorted_two}
use Rattle.glade_laws.proofs.Differing.{only_first}
use Rattle.glade_laws.proofs.Reaching.{Walks, walks}
use Rattle.glade_laws.proofs.Rules.{rules_apart}
use Rattle.glade_laws.proofs.Groups.{trees_join, in_one_rule, in_two_rules, in_one_shape}
use Rattle.glade_laws.proofs.Stocked.{stocked}
use Rattle.glade_laws.proofs.Listed.{symbol_of, wholes, written_trees}
use Rattle.glade_laws.proofs.Used.{used_group, group_used}

module _ (f : Forest) (is : IsForest f) (rule : f.ranking ≡ RuleRanks) where
  abbrev lists : Lists
  lists = (forests_have_lists f is).0

  all : AreAllLists f (forests_have_lists f is).0
  all = (forests_have_lists f is).1

  are : AreLists f (forests_have_lists f is).0
  are = all.equal

  known : Kinds f (forests_have_lists f is).0
  known = kinds f is (forests_have_lists f is).0 are (stocked f is rule (forests_have_lists f is).0 all)

  pub second_first : (n : ℕ) (s s' : List ℕ) → IsSecond f n s s' → IsFirst f n s
  second_first n s s' (Here node m m' more starts others there e only first) = FirstGoes node m (m' ∷ more) starts there e (only_first f is lists are known m starts only)
  second_first n s s' (Below node m more starts others there e second) = FirstGoes node m more starts there e (second_first m starts others second)

  module _ (slot : Slot) (p q : ℕ) (nodes : List ℕ) (group : IsGroup f slot p q nodes) where
    abbrev is_wholes : AreWholes f (symbol_of f is rule slot p q nodes group) p q nodes
    is_wholes = wholes f is rule slot p q nodes group

    -- a node of the group, with its rule
    record IsOfGroup (k i : ℕ) : Type 0 where
      flat_rule : ℕ
      at : slice_get (wholes f is rule slot p q nodes group).rules i ≡ Some flat_rule
      node : ForestNode
      there : slice_get f.nodes k ≡ Some node
      key : node.key ≡ whole_key f flat_rule p q
      over : IsWholeOver f (symbol_of f is rule slot p q nodes group) p q flat_rule

    of_group : (k i : ℕ) → slice_get nodes i ≡ Some k → IsOfGroup k i
    of_group k i at =
        let h = wholes f is rule slot p q nodes group in
        let lt = (get_index nodes i 0 k at).0 in
        let count = h.all in
        let r : ℕ = slice_index_or h.rules i 0 in
        let rule_at = slice_get-get_or h.rules i 0 (omega (arith, lt, count)) in
        let (node, there, key) = h.each i k r at rule_at in
        record { flat_rule = r; at = rule_at; node = node; there = there; key = key; over = ((h.exact r).0 (contains_from h.rules r (get_among h.rules i r rule_at))).0 }

    -- its rule comes from a written one
    source_there : (k i : ℕ) (h : IsOfGroup k i) → (j : ℕ) × (source_of f.flat h.flat_rule ≡ Written j)
    source_there k i h =
        by (source_of f.flat h.flat_rule) refl
        (subst (λ (s : FlatSymbol). HasSource s (source_of f.flat h.flat_rule)) left (is.derived.flat.sources h.flat_rule (symbol_at f.flat (lhs_of f.flat h.flat_rule)) h.over.is_rule
        (slice_get-get_or f.flat.symbols (lhs_of f.flat h.flat_rule) (Top 0) (is.derived.flat.in_range.left h.flat_rule h.over.is_rule))))
      where
        left : symbol_at f.flat (lhs_of f.flat h.flat_rule) ≡ AtLevel slot.symbol slot.level
        left = ap (symbol_at f.flat) h.over.left ∙ group.symbol

        by : (source : FlatSource) → source_of f.flat h.flat_rule ≡ source → HasSource (AtLevel slot.symbol slot.level) source → (j : ℕ) × (source_of f.flat h.flat_rule ≡ Written j)
        by (Written j) e s = (j, e)
        by (OfStart j) e s = absurd s

    rule_is : (k i : ℕ) (h : IsOfGroup k i) → rule_of (slice_get f.nodes k) ≡ h.flat_rule
    rule_is k i h = ap rule_of h.there ∙ ap (λ (x : NodeKey). x.rule) h.key

    pub comes_from : (k i : ℕ) → slice_get nodes i ≡ Some k → (j : ℕ) × ComesFrom f k j
    comes_from k i at = let h = of_group k i at in let (j, e) = source_there k i h in (j, ap (source_of f.flat) (rule_is k i h) ∙ e)

    -- what its node stands for
    children_there : (k i : ℕ) (h : IsOfGroup k i) (s : List ℕ) → IsFirst f k s → (cs : Children) × Spans f.flat (edges_of f) h.flat_rule (length (rhs_of f.flat h.flat_rule)) p q cs × (written_starts f cs ≡ s)
    children_there k i h s walk =
        let (cs, rest, e, starts) = first_is f lists are known k s walk in
        let spans = (((all.nodes k h.node h.there).exact cs).0 (contains_from (lists k) cs (subst (Among cs) (sym e) (inl refl)))).0 in
        (cs, subst (λ (x : NodeKey). Spans f.flat (edges_of f) x.rule x.dot x.origin x.end cs) h.key spans, starts)

    -- the first shapes of two rules differ
    apart : (k k' : ℕ) (more : List ℕ) (i i' : ℕ) (s s' : List ℕ) → nodes ≡ k ∷ k' ∷ more → ComesFrom f k i → ComesFrom f k' i' → IsFirst f k s → IsFirst f k' s' → shape_at i' s' ≢ shape_at i s
    apart k k' more i i' s s' e source source' first first' same =
        let rules : i' ≡ i = ap (λ (x : Shape). x.rule) same in
        let starts : s' ≡ s = ap (λ (x : Shape). x.starts) same in
        let h = of_group k 0 (ap (λ (ns : List ℕ). slice_get ns 0) e) in
        let h' = of_group k' 1 (ap (λ (ns : List ℕ). slice_get ns 1) e) in
        let (cs, spans, is_s) = children_there k 0 h s first in
        let (ds, spans', is_s') = children_there k' 1 h' s' first' in
        rules_apart f is h.flat_rule h'.flat_rule i p q slot h.over.is_rule h'.over.is_rule (ap (source_of f.flat) (sym (rule_is k 0 h)) ∙ source) (ap (source_of f.flat) (sym (rule_is k' 1 h')) ∙ source' ∙ ap Written rules)
        (h.over.left ∙ sym h'.over.left) (ap (symbol_at f.flat) h.over.left ∙ group.symbol) (in_order h.flat_rule h'.flat_rule h.at h'.at) is_wholes.spans cs ds spans spans' (is_s ∙ sym starts ∙ sym is_s')
      where
        in_order : (r r' : ℕ) → slice_get is_wholes.rules 0 ≡ Some r → slice_get is_wholes.rules 1 ≡ Some r' → rules_cmp f r r' ≡ Rattle.std.specs.declared.cmp.Ordering.TheVariants.Less
        in_order r r' at at' = by is_wholes.rules is_wholes.sorted at at'
          where
            some_is : {x y : ℕ} → Some x ≡ Some y → x ≡ y
            some_is e = cc

            by : (rs : List ℕ) → Rattle.std.specs.List.Sorted.IsStrictlySortedBy (rules_cmp f) rs → slice_get rs 0 ≡ Some r → slice_get rs 1 ≡ Some r' → rules_cmp f r r' ≡ Rattle.std.specs.declared.cmp.Ordering.TheVariants.Less
            by [] sorted a b = absurd (cc)
            by (x ∷ []) sorted a b = absurd (cc)
            by (x ∷ y ∷ rest) sorted a b =
                let x_is : x ≡ r = some_is a in
                let y_is : y ≡ r' = some_is b in
                (λ z. rules_cmp f (sym x_is z) (sym y_is z)) ∙ sorted_two (rules_cmp f) x y rest sorted

    trees : IsAll f.written (Held f.edges) (rank_order f.written f.ranking) slot p q (map (tree_of f.written f.flat) (flat_map (whole_by f (forests_have_lists f is).0 p q) nodes))
    trees = written_trees f is rule slot p q nodes group (forests_have_lists f is).0 all

    -- the first two shapes of a group are those of its slot over its span
    pub shapes_are : (a b : Shape) → AreFirstTwo f nodes a b → HasShapes f.written (Held f.edges) (rank_order f.written f.ranking) slot p q a b
    shapes_are a b (OfOne k more i s s' e source second) = in_one_rule f is lists are known p q slot nodes trees k more i s s' e source (second_first k s s' second) second
    shapes_are a b (OfTwo k k' more i i' s s' e source source' only first) =
        in_two_rules f is lists are known p q slot nodes trees k k' more i i' s s' e source source' only first (apart k k' more i i' s s' e source source' (only_first f is lists are known k s only) first)

    abbrev pub IsOfOneShape : Type 0
    IsOfOneShape = (k : ℕ) × (s : List ℕ) × (nodes ≡ k ∷ []) × IsOnly f k s

    abbrev pub HasFirstTwo : Type 0
    HasFirstTwo = (a : Shape) × (b : Shape) × AreFirstTwo f nodes a b

    pub one_or_two : HasFirstTwo ⊎ IsOfOneShape
    one_or_two = by nodes refl
      where
        walk_at : (k i : ℕ) → slice_get nodes i ≡ Some k → Walks f is k
        walk_at k i at = let h = of_group k i at in walks f is k h.node h.there

        by : (ns : List ℕ) → nodes ≡ ns → HasFirstTwo ⊎ IsOfOneShape
        by [] e = absurd (let some = is_wholes.some in let none : length nodes ≡ 0 = ap length e in omega (arith, some, none))
        by (k ∷ []) e =
            let at = ap (λ (ns : List ℕ). slice_get ns 0) e in
            go (walk_at k 0 at) (comes_from k 0 at)
          where
            go : Walks f is k → (j : ℕ) × ComesFrom f k j → HasFirstTwo ⊎ IsOfOneShape
            go (s, first, inl only) (j, source) = inr (k, s, e, only)
            go (s, first, inr (other, second)) (j, source) = inl (shape_at j s, shape_at j other, OfOne k [] j s other e source second)
        by (k ∷ k' ∷ more) e =
            let at = ap (λ (ns : List ℕ). slice_get ns 0) e in
            let at' = ap (λ (ns : List ℕ). slice_get ns 1) e in
            go (walk_at k 0 at) (comes_from k 0 at) (walk_at k' 1 at') (comes_from k' 1 at')
          where
            go : Walks f is k → (j : ℕ) × ComesFrom f k j → Walks f is k' → (j : ℕ) × ComesFrom f k' j → HasFirstTwo ⊎ IsOfOneShape
            go (s, first, inl only) (j, source) (s', first', rest) (j', source') = inl (shape_at j s, shape_at j' s', OfTwo k k' more j j' s s' e source source' only first')
            go (s, first, inr (other, second)) (j, source) w source' = inl (shape_at j s, shape_at j other, OfOne k (k' ∷ more) j s other e source second)

    -- one shape is no glade
    pub no_shapes : IsOfOneShape → (a b : Shape) → HasShapes f.written (Held f.edges) (rank_order f.written f.ranking) slot p q a b → ⊥
    no_shapes (k, s, e, only) a b h =
        let (j, source) = comes_from k 0 (ap (λ (ns : List ℕ). slice_get ns 0) e) in
        let one = shaped j source h.one h.one_is.derives in
        let other = shaped j source h.other h.other_is.derives in
        h.other_is.is_so (other ∙ sym one ∙ h.one_shape)
      where
        shaped : (j : ℕ) → ComesFrom f k j → (t : Tree) → Derives f.written (Held f.edges) slot p q t → shape_of t ≡ Some (shape_at j s)
        shaped j source t d =
            in_one_shape f is lists are known p q slot nodes trees k j s e source only t
            (subst (Among t) (trees_join f is lists are known p q nodes) (among_from _ t ((trees.each t).1 d)))

  -- what a group tells is a glade
  pub group_glade : (glade : Glade) → IsByGroup f glade → IsGlade f.written (Held f.edges) (start_of f) f.place glade
  group_glade glade by = record {
    used = group_used f is rule glade.slot glade.from glade.to by.nodes by.group;
    shapes = subst (λ r. HasShapes f.written (Held f.edges) (rank_order f.written r) glade.slot glade.from glade.to glade.first glade.second) rule
        (shapes_are glade.slot glade.from glade.to by.nodes by.group glade.first glade.second by.shapes);
  }

  -- and each glade is told
  pub glade_group : (glade : Glade) → IsGlade f.written (Held f.edges) (start_of f) f.place glade → IsByGroup f glade
  glade_group glade is_glade =
      let (nodes, group) = used_group f is rule glade.slot glade.from glade.to is_glade.used in
      go nodes group (one_or_two glade.slot glade.from glade.to nodes group)
    where
      shapes : HasShapes f.written (Held f.edges) (rank_order f.written f.ranking) glade.slot glade.from glade.to glade.first glade.second
      shapes = subst (λ r. HasShapes f.written (Held f.edges) (rank_order f.written r) glade.slot glade.from glade.to glade.first glade.second) (sym rule) is_glade.shapes

      go : (nodes : List ℕ) (group : IsGroup f glade.slot glade.from glade.to nodes) → HasFirstTwo glade.slot glade.from glade.to nodes group ⊎ IsOfOneShape glade.slot glade.from glade.to nodes group → IsByGroup f glade
      go nodes group (inl (a, b, two)) =
          let (a_is, b_is) = one_shapes f.written (Held f.edges) (rank_order f.written f.ranking) (ranks_order f.written f.ranking) glade.slot glade.from glade.to a b glade.first glade.second
          (shapes_are glade.slot glade.from glade.to nodes group a b two) shapes in
          record { nodes = nodes; group = group; shapes = subst (λ x. AreFirstTwo f nodes x glade.second) a_is (subst (AreFirstTwo f nodes a) b_is two) }
      go nodes group (inr one) = absurd (no_shapes glade.slot glade.from glade.to nodes group one glade.first glade.second shapes)

  -- two glades of one place are one
  pub one_glade : (glade other : Glade) → IsGlade f.written (Held f.edges) (start_of f) f.place glade → IsGlade f.written (Held f.edges) (start_of f) f.place other →
      other.slot ≡ glade.slot → other.from ≡ glade.from → other.to ≡ glade.to → other ≡ glade
  one_glade glade other h k slot from to =
      let moved : HasShapes f.written (Held f.edges) (rank_order f.written RuleRanks) glade.slot glade.from glade.to other.first other.second =
      subst (λ (s : Slot). HasShapes f.written (Held f.edges) (rank_order f.written RuleRanks) s glade.from glade.to other.first other.second) slot
      (subst (λ x. HasShapes f.written (Held f.edges) (rank_order f.written RuleRanks) other.slot x glade.to other.first other.second) from
      (subst (λ y. HasShapes f.written (Held f.edges) (rank_order f.written RuleRanks) other.slot other.from y other.first other.second) to k.shapes)) in
      let (first, second) = one_shapes f.written (Held f.edges) (rank_order f.written RuleRanks) (ranks_order f.written RuleRanks) glade.slot glade.from glade.to other.first other.second glade.first glade.second moved h.shapes in
      λ i. record { slot = slot i; from = from i; to = to i; first = first i; second = second i }

  pub report_is : (glades : List Glade) → AreByGroups f glades → AreGlades f.written f.edges (start_of f) f.place glades
  report_is glades by = record {
    sorted = by.sorted;
    exact = λ glade. (
      λ c. group_glade glade (by.each glade c),
      λ h. (let (told, c, slot, from, to) = by.all glade (glade_group glade h) in subst (Contains glades) (one_glade glade told h (group_glade told (by.each told c)) slot from to) c),
    );
  }
