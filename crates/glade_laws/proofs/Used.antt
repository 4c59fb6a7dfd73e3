-- The slots over spans that derivations of the start use are those that have a group.
use Rattle.std.proofs.Common.{◌≡◌, ℕ, suc, ◌<◌, ◌≤◌, List, length, ◌⊎◌, inl, inr, Some, refl, sym, ap, ◌∙◌, subst, arith}
use Rattle.std.specs.Prelude.{slice_get, slice_index_or}
use Rattle.std.proofs.lemmas.Option.{slice_get-get_or}
use Rattle.finite_sets.proofs.Lists.{get_among, get_index}
use Rattle.finite_sets.proofs.Members.{among_map, among_from, contains_from}
use Rattle.grammar_model.specs.Grammar.{Grammar, Slot, slot_of}
use Rattle.grammar_model.specs.Trees.{Tree, Children, Leaf, Nulled, Node, NoChild, Child, child_count, from_of}
use Rattle.grammar_model.specs.Derives.{Edges, Held}
use Rattle.grammar_model.specs.Derives
use Rattle.grammar_model.specs.declared.Ranking.TheVariants.{Rule as RuleRanks}
use Rattle.recognizer_model.specs.declared.flat.FlatSymbol.{FlatSymbol}
use Rattle.recognizer_model.specs.declared.flat.FlatSymbol.TheVariants.{Terminal, Slot as AtLevel, Sequence, Top}
use Rattle.recognizer_model.specs.Flat.{FlatGrammar, IsRule, lhs_of, rhs_of}
use Rattle.recognizer_model.specs.FlatDerives.{Derives, Spans, Token, Null, Rule, Nothing, More}
use Rattle.recognizer_model.specs.FlatForm.{StandsFor, symbol_at, tree_of}
use Rattle.recognizer_model.specs.Invariant.{IsTopOf}
use Rattle.recognizer_model.specs.Nodes.{Has, All, Fewer, Inside, IsUsed}
use Rattle.recognizer_model.proofs.Forms
use Rattle.recognizer_model.proofs.Forms.{FlatNames}
use Rattle.recognizer_model.proofs.FlatNamed.{form}
use Rattle.recognizer_model.proofs.FlatJoin.{view, names, lhs_is, rhs_is, reads}
use Rattle.recognizer_model.proofs.FlatFormLaw.{TopNode, top_node, top_tree, agree_tree, inner_stands}
use Rattle.forest_model.specs.Forest.{ForestNode, Forest, edges_of, allowed_of, top_of, IsForest, whole_key}
use Rattle.forest_laws.proofs.Reading.{viewed, back}
use Rattle.glade_model.specs.Glades.{HasNode, IsUsedSpan}
use Rattle.glade_laws.specs.Groups.{start_of, IsGroup}
use Rattle.glade_laws.proofs.Standing.{HasSlot, HasSlotAmong, tree_stands}
use Rattle.glade_laws.proofs.Places.{whole_slot}
use Rattle.glade_laws.proofs.Heads.{IsCauseThere, groups_are_causes}
use Rattle.glade_laws.proofs.Stocked.{all_allowed, met, held_forward}
use Rattle.glade_laws.proofs.Listed
use Rattle.glade_laws.proofs.Listed.{symbol_of, wholes}

-- ---- children and nodes of flat derivations

module _ (g : FlatGrammar) (E : Edges) where
  record IsSplitOff (r d a b : ℕ) (prefix : Children) (last : Tree) : Type 0 where
    dot : ℕ
    dot_is : d ≡ suc dot
    middle : ℕ
    symbol : ℕ
    before : Spans g E r dot a middle prefix
    derives : Derives g E symbol middle b last

  split_off : {r d a b : ℕ} {prefix : Children} {last : Tree} → Spans g E r d a b (Child prefix last) → IsSplitOff r d a b prefix last
  split_off (More {d = d} {m = m} {x = x} s e t) = record { dot = d; dot_is = refl; middle = m; symbol = x; before = s; derives = t }

  record IsWhole (x a b r c d : ℕ) (cs : Children) : Type 0 where
    is_rule : IsRule g r
    left : lhs_of g r ≡ x
    from : c ≡ a
    to : d ≡ b
    spans : Spans g E r (length (rhs_of g r)) c d cs

  whole : {x a b r c d : ℕ} {cs : Children} → Derives g E x a b (Node r cs c d) → IsWhole x a b r c d cs
  whole (Rule rule l lt s) = record { is_rule = rule; left = l; from = refl; to = refl; spans = s }

  starts : {x a b : ℕ} {t : Tree} → Derives g E x a b t → from_of t ≡ a
  starts (Token s) = refl
  starts (Null n) = refl
  starts (Rule rule l lt s) = refl

  counted : {r d a b : ℕ} {cs : Children} → Spans g E r d a b cs → child_count cs ≡ d
  counted Nothing = refl
  counted (More s e t) = ap suc (counted s)

  few_parts : {r d a b : ℕ} {cs : Children} → Spans g E r d a b cs → d ≤ length (rhs_of g r)
  few_parts Nothing = omega arith
  few_parts (More {r = r} {d = d} {x = x} s e t) = let lt = (get_index (rhs_of g r) d 0 x e).0 in omega (arith, lt)

  -- what a derivation has are first children of a rule
  record IsWithin (r p q : ℕ) (cs : Children) : Type 0 where
    is_rule : IsRule g r
    dot : ℕ
    spans : Spans g E r dot p q cs

  within : {root : Tree} {r p q : ℕ} {cs : Children} {x a b : ℕ} → Derives g E x a b root → Has root r p q cs → IsWithin r p q cs
  within d (All {r = r}) = let h = whole d in record { is_rule = h.is_rule; dot = length (rhs_of g r); spans = h.spans }
  within d (Fewer {r = r} {p = p} {prefix = prefix} h) =
      let w = within d h in
      let s = split_off w.spans in
      record { is_rule = w.is_rule; dot = s.dot; spans = subst (λ m. Spans g E r s.dot p m prefix) (sym (starts s.derives)) s.before }
  within d (Inside {r' = r'} h) = let w = within d h in let s = split_off w.spans in let n = whole s.derives in record { is_rule = n.is_rule; dot = length (rhs_of g r'); spans = n.spans }

  -- a node of the tree that stands for the slot, whole
  module _ (n : FlatNames) (slot : Slot) (p q : ℕ) where
    record IsFound (root : Tree) : Type 0 where
      rule : ℕ
      children : Children
      has : Has root rule p q children
      stands : Forms.StandsFor (n.symbol (n.lhs rule)) slot
      is_rule : IsRule g rule
      spans : Spans g E rule (length (rhs_of g rule)) p q children

    found_at : (root : Tree) (r c d : ℕ) (cs : Children) → Has root r c d cs → Forms.StandsFor (n.symbol (n.lhs r)) slot → IsRule g r → Spans g E r (length (rhs_of g r)) c d cs → c ≡ p → d ≡ q → IsFound root
    found_at root r c d cs has stands rule s from to = record {
      rule = r;
      children = cs;
      has = subst (λ x. Has root r x q cs) from (subst (λ y. Has root r c y cs) to has);
      stands = stands;
      is_rule = rule;
      spans = subst (λ x. Spans g E r (length (rhs_of g r)) x q cs) from (subst (λ y. Spans g E r (length (rhs_of g r)) c y cs) to s);
    }

    find : (root : Tree) (r d a b : ℕ) (cs : Children) → Has root r a b cs → Spans g E r d a b cs → HasSlotAmong n cs slot p q → IsFound root
    find root r d a b NoChild has s h = absurd h
    find root r d a b (Child prefix last) has s (inl h) =
        let k = split_off s in
        find root r k.dot a (from_of last) prefix (Fewer has) (subst (λ m. Spans g E r k.dot a m prefix) (sym (starts k.derives)) k.before) h
    find root r d a b (Child prefix (Leaf x c e)) has s (inr h) = absurd h
    find root r d a b (Child prefix (Nulled x c)) has s (inr h) = absurd h
    find root r d a b (Child prefix (Node r' cs' c e)) has s (inr (inl (stands, from, to))) =
        let w = whole (split_off s).derives in found_at root r' c e cs' (Inside has) stands w.is_rule w.spans from to
    find root r d a b (Child prefix (Node r' cs' c e)) has s (inr (inr h)) =
        let w = whole (split_off s).derives in find root r' (length (rhs_of g r')) c e cs' (Inside has) w.spans h

-- ---- used slots and groups

module _ (f : Forest) (is : IsForest f) (rule : f.ranking ≡ RuleRanks) where
  abbrev g : FlatGrammar
  g = f.flat

  abbrev w : Grammar
  w = f.written

  abbrev n : FlatNames
  n = names f.flat f.written is.derived.flat is.derived.flat_of is.derived.checked

  abbrev F : Grammar
  F = view f.flat f.written is.derived.flat is.derived.flat_of is.derived.checked

  abbrev top : ℕ
  top = lhs_of f.flat (top_of f)

  top_there : IsTopOf f.flat f.start (top_of f)
  top_there = is.derived.flat.tops f.start (top_of f) (slice_get-get_or f.flat.tops f.start 0 is.derived.start)

  top_at : symbol_at f.flat (lhs_of f.flat (top_of f)) ≡ Top f.start
  top_at = (get_index f.flat.symbols (lhs_of f.flat (top_of f)) (Top 0) (Top f.start) top_there.symbol).1

  in_range : lhs_of f.flat (top_of f) < length f.flat.symbols
  in_range = (get_index f.flat.symbols (lhs_of f.flat (top_of f)) (Top 0) (Top f.start) top_there.symbol).0

  start_at : slice_get f.written.starts f.start ≡ Some (start_of f)
  start_at = slice_get-get_or f.written.starts f.start 0 (let lt = is.derived.start in let all = is.derived.flat_of.tops_all in omega (arith, lt, all))

  top_stands : StandsFor f.written (symbol_at f.flat (lhs_of f.flat (top_of f))) (slot_of (start_of f))
  top_stands = subst (λ (s : FlatSymbol). StandsFor f.written s (slot_of (start_of f))) (sym top_at) (start_of f, start_at, refl)

  same_start : (a b : ℕ) → slice_get f.written.starts f.start ≡ Some a → slice_get f.written.starts f.start ≡ Some b → a ≡ b
  same_start a b e e' = let s : Some a ≡ Some b = sym e ∙ e' in cc

  slot_symbol : (r : ℕ) (slot : Slot) → IsRule g r → Forms.StandsFor (n.symbol (n.lhs r)) slot → symbol_at g (lhs_of g r) ≡ AtLevel slot.symbol slot.level
  slot_symbol r slot is_rule st =
      by (symbol_at g (lhs_of g r)) refl (subst (λ x. Forms.StandsFor (form (symbol_at g x)) slot) (lhs_is f.flat f.written is.derived.flat is.derived.flat_of is.derived.checked r is_rule) st)
    where
      at_left : slice_get g.symbols (lhs_of g r) ≡ Some (symbol_at g (lhs_of g r))
      at_left = slice_get-get_or g.symbols (lhs_of g r) (Top 0) (is.derived.flat.in_range.left r is_rule)

      by : (s : FlatSymbol) → symbol_at g (lhs_of g r) ≡ s → Forms.StandsFor (form s) slot → symbol_at g (lhs_of g r) ≡ AtLevel slot.symbol slot.level
      by (Terminal t) e st = absurd (is.derived.flat.no_rules r is_rule (t, at_left ∙ ap Some e))
      by (AtLevel s k) e st = e ∙ (λ i. AtLevel ((sym st i).symbol) ((sym st i).level))
      by (Sequence i) e st = absurd st
      by (Top k) e st = absurd st

  -- the top stands for no slot of its own
  no_top : (r : ℕ) (slot : Slot) → n.lhs r ≡ lhs_of f.flat (top_of f) → Forms.StandsFor (n.symbol (n.lhs r)) slot → ⊥
  no_top r slot left st = subst (λ (s : FlatSymbol). Forms.StandsFor (form s) slot) (ap (symbol_at g) left ∙ top_at) st

  module _ (slot : Slot) (p q : ℕ) where
    -- the slot's node in what the whole stands for is one in the flat derivation
    child_stands : (r a b : ℕ) (cs : Children) (t : TopNode f.flat f.written is.derived.flat is.derived.flat_of is.derived.checked (Held f.edges) (held_forward f is rule) f.ranking f.start r 0 f.place cs) →
        (HasSlot n t.child slot p q → HasNode w (slot_of (start_of f)) (tree_of w g (Node r cs a b)) slot p q) × (HasNode w (slot_of (start_of f)) (tree_of w g (Node r cs a b)) slot p q → HasSlot n t.child slot p q)
    child_stands r a b cs t =
        let start : t.start ≡ start_of f = same_start t.start (start_of f) t.at start_at in
        let st = subst (λ s. Forms.StandsFor (n.symbol t.symbol) (slot_of s)) start (inner_stands w (symbol_at g t.symbol) (slot_of t.start) t.stands t.inner) in
        let law = tree_stands F w n (edges_of f) (Held f.edges) (reads f.flat f.written is.derived.flat is.derived.flat_of is.derived.checked (Held f.edges)) slot p q t.child t.symbol 0 f.place (slot_of (start_of f)) st t.derives in
        let same : tree_of w g (Node r cs a b) ≡ Forms.tree_of n t.child =
        top_tree f.flat f.written is.derived.flat is.derived.flat_of is.derived.checked (Held f.edges) (held_forward f is rule) f.ranking f.start r 0 f.place cs a b t
        ∙ agree_tree f.flat f.written is.derived.flat is.derived.flat_of is.derived.checked (Held f.edges) (held_forward f is rule) f.ranking t.child t.symbol 0 f.place t.inner t.derives in (
          λ h. subst (λ u. HasNode w (slot_of (start_of f)) u slot p q) (sym same) (law.0 h),
          λ h. law.1 (subst (λ u. HasNode w (slot_of (start_of f)) u slot p q) same h),
        )

    abbrev GroupThere : Type 0
    GroupThere = (nodes : List ℕ) × IsGroup f slot p q nodes

    group_of : (r : ℕ) → IsRule g r → symbol_at g (lhs_of g r) ≡ AtLevel slot.symbol slot.level → IsUsed g (edges_of f) (allowed_of f) (top_of f) f.place (whole_key f r p q) → GroupThere
    group_of r is_rule at used = by (groups_are_causes f is (met f is rule) r p q used)
      where
        not_top : AtLevel slot.symbol slot.level ≡ Top f.start → ⊥
        not_top e = cc

        by : (r ≡ top_of f) ⊎ IsCauseThere f is (met f is rule) r p q → GroupThere
        by (inl same) = absurd (not_top (sym at ∙ ap (λ x. symbol_at g (lhs_of g x)) same ∙ top_at))
        by (inr c) =
            let (k, m) = Rattle.finite_sets.proofs.Lists.among_get f.nodes c.node (among_from f.nodes c.node c.held) in
            (c.nodes, record { number = k; node = c.node; there = m; alternative = c.alternative; has = c.has; symbol = ap (symbol_at g) c.symbol_is ∙ at; start = c.start_is; end = c.end_is; cause = c.cause_is })

    -- from a derivation to a group
    used_here : (v : Tree) → Derives.Derives F (edges_of f) (slot_of (lhs_of f.flat (top_of f))) 0 f.place v → HasNode w (slot_of (start_of f)) (tree_of w g v) slot p q → GroupThere
    used_here (Leaf x a b) d h = absurd h
    used_here (Nulled x a) d h = absurd h
    used_here (Node r cs a b) d h =
        let (is_rule, left, t) = top_node f.flat f.written is.derived.flat is.derived.flat_of is.derived.checked (Held f.edges) (held_forward f is rule) f.ranking (lhs_of f.flat (top_of f)) f.start 0 f.place r cs a b top_at d in
        let d' = back f is.derived (lhs_of f.flat (top_of f)) 0 f.place (Node r cs a b) d in
        let among : HasSlotAmong n cs slot p q = subst (λ c. HasSlotAmong n c slot p q) (sym t.is_child) (inr ((child_stands r a b cs t).1 h)) in
        let k = find g (edges_of f) n slot p q (Node r cs a b) r (length (rhs_of g r)) a b cs All (whole g (edges_of f) d').spans among in
        group_of k.rule k.is_rule (slot_symbol k.rule slot k.is_rule k.stands)
        (record { tree = Node r cs a b; derives = d'; chosen = all_allowed f is rule (Node r cs a b); children = k.children; has = k.has; dot_is = sym (counted g (edges_of f) k.spans); some = is.derived.flat.some k.rule k.is_rule })

    pub used_group : IsUsedSpan w (Held f.edges) (start_of f) f.place slot p q → (nodes : List ℕ) × IsGroup f slot p q nodes
    used_group u =
        let (v, d, same) = (Listed.form f is rule).whole (lhs_of f.flat (top_of f)) 0 f.place (slot_of (start_of f)) u.tree in_range top_stands u.derives in
        used_here v d (subst (λ t. HasNode w (slot_of (start_of f)) t slot p q) (sym same) u.has)

    -- and back
    span_of : (v : Tree) → Derives.Derives F (edges_of f) (slot_of (lhs_of f.flat (top_of f))) 0 f.place v → HasSlot n v slot p q → IsUsedSpan w (Held f.edges) (start_of f) f.place slot p q
    span_of (Leaf x a b) d h = absurd h
    span_of (Nulled x a) d h = absurd h
    span_of (Node r cs a b) d h =
        let (is_rule, left, t) = top_node f.flat f.written is.derived.flat is.derived.flat_of is.derived.checked (Held f.edges) (held_forward f is rule) f.ranking (lhs_of f.flat (top_of f)) f.start 0 f.place r cs a b top_at d in
        let inside : HasSlotAmong n cs slot p q = elim h [ inl (st, from, to) ↦ absurd (no_top r slot left st) | inr k ↦ k ] in
        let child : HasSlot n t.child slot p q = elim (subst (λ c. HasSlotAmong n c slot p q) t.is_child inside) [ inl none ↦ absurd none | inr k ↦ k ] in
        record {
          tree = tree_of w g (Node r cs a b);
          derives = (Listed.form f is rule).sound (lhs_of f.flat (top_of f)) 0 f.place (slot_of (start_of f)) (Node r cs a b) in_range top_stands d;
          has = (child_stands r a b cs t).0 child;
        }

    pub group_used : (nodes : List ℕ) → IsGroup f slot p q nodes → IsUsedSpan w (Held f.edges) (start_of f) f.place slot p q
    group_used nodes group =
        let h = wholes f is rule slot p q nodes group in
        let some = h.some in
        let all = h.all in
        let r : ℕ = slice_index_or h.rules 0 0 in
        let k : ℕ = slice_index_or nodes 0 0 in
        let there = slice_get-get_or h.rules 0 0 (omega (arith, some, all)) in
        let (node, at, key) = h.each 0 k r (slice_get-get_or nodes 0 0 some) there in
        let over = ((h.exact r).0 (contains_from h.rules r (get_among h.rules 0 r there))).0 in
        let here = contains_from (Rattle.std.specs.Prelude.map (λ (m : ForestNode). m.key) f.nodes) node.key (among_map (λ (m : ForestNode). m.key) node f.nodes (get_among f.nodes k node at)) in
        let u = subst (IsUsed g (edges_of f) (allowed_of f) (top_of f) f.place) key ((is.used.exact node.key).0 here) in
        let at_left : symbol_at g (lhs_of g r) ≡ AtLevel slot.symbol slot.level = ap (symbol_at g) over.left ∙ group.symbol in
        let left = lhs_is f.flat f.written is.derived.flat is.derived.flat_of is.derived.checked r over.is_rule in
        let st : Forms.StandsFor (n.symbol (n.lhs r)) slot = subst (λ x. Forms.StandsFor (form (symbol_at g x)) slot) (sym left) (subst (λ (s : FlatSymbol). Forms.StandsFor (form s) slot) (sym at_left) refl) in
        let few : (r' a' b' : ℕ) (ds : Children) → Has u.tree r' a' b' ds → child_count ds ≤ length (n.rhs r') =
        (λ r' a' b' ds has.
        (let k' = within g (edges_of f) u.derives has in
        let c = counted g (edges_of f) k'.spans in
        let le = few_parts g (edges_of f) k'.spans in
        let same = ap length (rhs_is f.flat f.written is.derived.flat is.derived.flat_of is.derived.checked r' k'.is_rule) in
        omega (arith, c, le, same))) in
        let full : child_count u.children ≡ length (n.rhs r) = sym u.dot_is ∙ ap length (sym (rhs_is f.flat f.written is.derived.flat is.derived.flat_of is.derived.checked r over.is_rule)) in
        span_of u.tree (viewed f is.derived u.derives) (whole_slot n slot p q u.has few full st refl refl)
