-- The node of a derivation's whole rule is told by the derivation's steps.
use Rattle.std.proofs.Common.{◌≡◌, ◌≢◌, ℕ, zero, suc, ◌+◌, ◌<◌, ◌↔◌, Bool, true, false, cond, List, [], ◌∷◌, ◌++◌, length, Some, refl, sym, ap, ◌∙◌, subst, append_assoc, length-append, arith}
use Rattle.std.specs.Prelude.{slice_get, Contains}
use Rattle.std.specs.List.{AllByRecursion}
use Rattle.std.specs.List.Sorted.{IsStrictlySortedBy}
use Rattle.std.proofs.lemmas.Bool.{true≢false}
use Rattle.std.proofs.lemmas.Option.{slice_get_within, slice_get-get_or}
use Rattle.std.specs.declared.cmp.Ordering.{Ordering}
use Rattle.std.specs.declared.cmp.Ordering.TheVariants.{Less, Equal}
use Rattle.std.specs.Cmp.{tied_itself}
use Rattle.finite_sets.proofs.Lists.{get_among}
use Rattle.finite_sets.proofs.Members.{contains_from}
use Rattle.grammar_model.specs.Grammar
use Rattle.grammar_model.specs.Trees.{Tree, Children, Node, NoChild, Child, child_count}
use Rattle.grammar_model.specs.Derives.{Edges}
use Rattle.grammar_model.specs.Steps.{Step, TokenStep, NulledStep, RuleStep, steps_of, steps_of_all}
use Rattle.recognizer_model.specs.declared.NodeKey.{NodeKey}
use Rattle.recognizer_model.specs.declared.flat.FlatSymbol.{FlatSymbol}
use Rattle.recognizer_model.specs.declared.flat.FlatSymbol.TheVariants.{Terminal, Slot, Sequence, Top}
use Rattle.recognizer_model.specs.declared.flat.FlatSource.{FlatSource}
use Rattle.recognizer_model.specs.declared.flat.FlatSource.TheVariants.{Written, Top as OfStart}
use Rattle.recognizer_model.specs.Invariant.{HasSource}
use Rattle.recognizer_model.specs.Flat.{FlatGrammar, IsRule, lhs_of, rhs_of, source_of, part_of}
use Rattle.recognizer_model.specs.FlatForm.{symbol_at, is_list, is_list_node, tree_of, children_of, inside, node_by}
use Rattle.recognizer_model.specs.FlatDerives.{Derives, Spans, Token, Null, Rule, Nothing, More}
use Rattle.recognizer_model.proofs.FlatKeeps.{flat_order_laws}
use Rattle.forest_model.specs.Forest.{Forest, ForestNode, IsForest, AreWholes, edges_of, rules_cmp, whole_key}
use Rattle.forest_laws.specs.Lists.{Lists, rule_of}
use Rattle.forest_laws.specs.Laws.{AreAllLists}
use Rattle.forest_laws.specs.Goals.{Goal, Parts, Write, count_of, whole_goals}
use Rattle.forest_laws.specs.Guide.{IsRowAt}
use Rattle.forest_laws.specs.Written.{is_list_rule, steps_written}
use Rattle.forest_laws.proofs.Written.{IsNoTop, part_no_top, source_written, children_are, list_node, AreWritten, count, out, tree_written}
use Rattle.bocage.specs.Readers.{node_at}
use Rattle.tree_iter.proofs.GoalLemmas.{at_node}
use Rattle.flat_steps.specs.Writing.{counts_behind}
use Rattle.tree_iter.proofs.LedOn.{aimed_two}
use Rattle.tree_iter.specs.Leads.{rule_size, size_of, IsOneOf, AreAimed, IsToldBy, IsTold, IsRuleTold}
use Rattle.flat_steps.proofs.Written.{written_both}
use Rattle.tree_iter.proofs.Sizes.{size_both, sized, children_sized, row_leads}
use Rattle.tree_iter.proofs.LedParts.{last_no_list, item_no_list, last_part}
use Rattle.tree_iter.proofs.LedWholes.{ends, slot_one, list_one, spans_count}

-- two parts of a list at one place
at_same : {X : Type 0} (xs ys us vs : List X) (x y : X) → xs ++ x ∷ us ≡ ys ++ y ∷ vs → length xs ≡ length ys → x ≡ y
at_same [] [] us vs x y e l = cc
at_same [] (k ∷ ys) us vs x y e l = absurd (omega (arith, l))
at_same (k ∷ xs) [] us vs x y e l = absurd (omega (arith, l))
at_same (k ∷ xs) (m ∷ ys) us vs x y e l = let tails : xs ++ x ∷ us ≡ ys ++ y ∷ vs = cc in at_same xs ys us vs x y tails (omega (arith, l))

-- in a list in which nothing stands twice
each_at : {X : Type 0} (P : X → Type 0) (xs : List X) (k : ℕ) (x : X) → AllByRecursion P xs → slice_get xs k ≡ Some x → P x
each_at P [] k x all e = absurd (cc e)
each_at P (y ∷ ys) zero x all e = let same : y ≡ x = cc in subst P same all.0
each_at P (y ∷ ys) (suc k) x all e = each_at P ys k x all.1 e

once : (R : ℕ → ℕ → Ordering) → ((r : ℕ) → R r r ≡ Less → ⊥) → (xs : List ℕ) (i j x : ℕ) → IsStrictlySortedBy R xs → slice_get xs i ≡ Some x → slice_get xs j ≡ Some x → i ≡ j
unfolding IsStrictlySortedBy
once R apart [] i j x s a b = absurd (cc a)
once R apart (y ∷ ys) zero zero x s a b = refl
once R apart (y ∷ ys) zero (suc j) x s a b = let same : y ≡ x = cc in absurd (apart x (ap (λ z. R z x) (sym same) ∙ each_at (λ z. R y z ≡ Less) ys j x s.0 b))
once R apart (y ∷ ys) (suc i) zero x s a b = let same : y ≡ x = cc in absurd (apart x (ap (λ z. R z x) (sym same) ∙ each_at (λ z. R y z ≡ Less) ys i x s.0 a))
once R apart (y ∷ ys) (suc i) (suc j) x s a b = ap suc (once R apart ys i j x s.1 a b)

there_at : {X : Type 0} (xs : List X) (x : X) (c : Contains xs x) → slice_get xs c.0 ≡ Some x
there_at xs x (k, lt, e) = slice_get-get_or xs k x lt ∙ ap Some e

got : (xs : List ℕ) (k : ℕ) → k < length xs → (r : ℕ) × (slice_get xs k ≡ Some r)
got [] k lt = absurd (omega arith)
got (x ∷ xs) zero lt = (x, refl)
got (x ∷ xs) (suc k) lt = got xs k (omega arith)

module _ (f : Forest) (is : IsForest f) where
  abbrev g : FlatGrammar
  g = f.flat

  abbrev E : Edges
  E = edges_of f

  -- ---- each tree is written with a step

  mutual
    pub tree_some : {x p q : ℕ} {t : Tree} → Derives g E x p q t → 0 < size_of g (steps_of t)
    tree_some (Token e) = omega arith
    tree_some (Null n) = omega arith
    tree_some (Rule {p = p} {q = q} {r = r} {cs = cs} rule l lt s) =
        let own = children_some s (is.derived.flat.some r rule) in
        let both = size_both g (steps_of_all cs) (RuleStep r (child_count cs) p q ∷ []) in
        omega (arith, own, both)

    pub children_some : {r d p q : ℕ} {cs : Children} → Spans g E r d p q cs → 0 < d → 0 < size_of g (steps_of_all cs)
    children_some Nothing lt = absurd (omega arith)
    children_some (More {cs = cs} {t = t} s e d) lt =
        let own = tree_some d in
        let both = size_both g (steps_of_all cs) (steps_of t) in
        omega (arith, own, both)

  -- ---- the rule of a node among the whole rules over a span

  record IsWholeAt (symbol start end : ℕ) (nodes : List ℕ) (wholes : AreWholes f symbol start end nodes) (n : ℕ) : Type 0 where
    i : ℕ
    at : slice_get nodes i ≡ Some n
    r : ℕ
    r_at : slice_get wholes.rules i ≡ Some r
    rule : IsRule g r
    left : lhs_of g r ≡ symbol
    node : ForestNode
    there : slice_get f.nodes n ≡ Some node
    key : node.key ≡ whole_key f r start end

  whole_at : (symbol start end : ℕ) (nodes : List ℕ) (wholes : AreWholes f symbol start end nodes) (n : ℕ) → Contains nodes n → IsWholeAt symbol start end nodes wholes n
  whole_at symbol start end nodes wholes n held =
      let at = there_at nodes n held in
      let lt = held.1 in
      let all = wholes.all in
      let (r, r_at) = got wholes.rules held.0 (omega (arith, lt, all)) in
      let (node, there, key) = wholes.each held.0 n r at r_at in
      let over = ((wholes.exact r).0 (contains_from wholes.rules r (get_among wholes.rules held.0 r r_at))).0 in
      record { i = held.0; at = at; r = r; r_at = r_at; rule = over.is_rule; left = over.left; node = node; there = there; key = key }

  apart : (r : ℕ) → rules_cmp f r r ≡ Less → ⊥
  apart r less = never (sym (tied_itself (flat_order_laws f.written f.ranking f.flat).total (r, length (rhs_of f.flat r))) ∙ less)
    where
      never : Equal ≡ Less → ⊥
      never e = cc

  -- nodes of one rule are one
  same_node : (symbol start end : ℕ) (nodes : List ℕ) (wholes : AreWholes f symbol start end nodes) (n n' : ℕ) (a : IsWholeAt symbol start end nodes wholes n) (b : IsWholeAt symbol start end nodes wholes n') → a.r ≡ b.r → n ≡ n'
  same_node symbol start end nodes wholes n n' a b same =
      let here : a.i ≡ b.i = once (rules_cmp f) apart wholes.rules a.i b.i a.r wholes.sorted a.r_at (b.r_at ∙ ap Some (sym same)) in
      let both : Some n ≡ Some n' = sym a.at ∙ ap (slice_get nodes) here ∙ b.at in
      cc

  -- and stand at one place
  pub place_once : (symbol start end : ℕ) (nodes : List ℕ) → AreWholes f symbol start end nodes → (i k n : ℕ) → slice_get nodes i ≡ Some n → slice_get nodes k ≡ Some n → i ≡ k
  place_once symbol start end nodes wholes i k n a b =
      let all = wholes.all in
      let lt = slice_get_within nodes i n a in
      let lt' = slice_get_within nodes k n b in
      let (r, r_at) = got wholes.rules i (omega (arith, lt, all)) in
      let (r', r_at') = got wholes.rules k (omega (arith, lt', all)) in
      let (node, there, key) = wholes.each i n r a r_at in
      let (node', there', key') = wholes.each k n r' b r_at' in
      let nodes_same : Some node ≡ Some node' = sym there ∙ there' in
      let same : node ≡ node' = cc in
      let rules : r ≡ r' = ap (λ (x : NodeKey). x.rule) (sym key ∙ ap (λ (x : ForestNode). x.key) same ∙ key') in
      once (rules_cmp f) apart wholes.rules i k r wholes.sorted r_at (r_at' ∙ ap Some (sym rules))

  -- the symbol of a part is a slot's or a list's, where it has whole rules
  slot_of_rule : (r d x : ℕ) → part_of g r d ≡ Some x → (r' : ℕ) → IsRule g r' → lhs_of g r' ≡ x → is_list (symbol_at g x) ≡ false → (slot : Grammar.Slot) × (symbol_at g x ≡ Slot slot.symbol slot.level)
  slot_of_rule r d x part r' rule left none = go (symbol_at g x) refl none
    where
      there : slice_get f.flat.symbols x ≡ Some (symbol_at f.flat x)
      there = slice_get-get_or f.flat.symbols x (Top 0) (subst (λ y. y < length f.flat.symbols) left (is.derived.flat.in_range.left r' rule))

      go : (s : FlatSymbol) → symbol_at f.flat x ≡ s → is_list s ≡ false → (slot : Grammar.Slot) × (symbol_at f.flat x ≡ Slot slot.symbol slot.level)
      go (Terminal t) e h = absurd (no_source (source_of f.flat r') (is.derived.flat.sources r' (Terminal t) rule (ap (slice_get f.flat.symbols) left ∙ there ∙ ap Some e)))
        where
          no_source : (s : FlatSource) → HasSource (Terminal t) s → ⊥
          no_source (Written i) bad = bad
          no_source (OfStart k) bad = bad
      go (Slot t k) e h = (record { symbol = t; level = k }, e)
      go (Sequence i) e h = absurd (true≢false h)
      go (Top k) e h = absurd (part_no_top f is.derived r d x part k (there ∙ ap Some e))

  module _ (lists : Lists) (all : AreAllLists f lists) (start end : ℕ) (nodes : List ℕ) (steps : List Step) (o : IsOneOf f lists start end nodes steps) (done behind to : List Step) (place from below : ℕ)
      (to_is : to ≡ steps_written f.written f.flat [] (done ++ (steps ++ behind))) (at : suc place ≡ size_of f.flat done + size_of f.flat steps) (row : IsRowAt to place from below) where
    w : IsWholeAt o.symbol start end nodes o.wholes o.node
    w = whole_at o.symbol start end nodes o.wholes o.node o.among

    -- the tree of the rule
    rule_is : rule_of (slice_get f.nodes o.node) ≡ w.r
    rule_is = ap rule_of w.there ∙ ap (λ (k : NodeKey). k.rule) w.key

    spans : Spans g E w.r (length (rhs_of g w.r)) start end o.children
    spans = subst (λ (k : NodeKey). Spans g E k.rule k.dot k.origin k.end o.children) w.key (((all.nodes o.node w.node w.there).exact o.children).0 o.held).0

    last_step : Step
    last_step = RuleStep w.r (child_count o.children) start end

    own : steps ≡ steps_of_all o.children ++ RuleStep w.r (child_count o.children) start end ∷ []
    own = o.steps_are ∙ ap (λ r. steps_of (Node r o.children start end)) rule_is

    no_top : IsNoTop f is.derived (lhs_of g w.r)
    no_top = subst (IsNoTop f is.derived) (sym w.left) (part_no_top f is.derived o.rule o.dot o.symbol o.part)

    source : (i : ℕ) × (source_of g w.r ≡ Written i)
    source = source_written f is.derived w.r w.rule no_top

    written : AreWritten f.written f.flat o.children
    written = children_are f is.derived spans

    size_own : size_of g steps ≡ size_of g (steps_of_all o.children) + rule_size (is_list_rule g w.r) (source_of g w.r)
    size_own =
        let both = size_both g (steps_of_all o.children) (RuleStep w.r (child_count o.children) start end ∷ []) in
        ap (size_of g) own ∙ both ∙ omega arith

    -- ---- a slot's rule

    told_slot : is_list_rule g w.r ≡ false → IsRuleTold f (whole_key f w.r start end) row.step
    told_slot none =
        let counts : List ℕ = counts_behind f.flat [] done in
        let before : List Step = steps_written f.written f.flat [] done in
        let cs : Children = children_of f.written f.flat o.children in
        let t : Tree = Node w.r o.children start end in
        let out_is : out f.written f.flat (Node w.r o.children start end) ≡ steps_of_all cs ++ RuleStep source.0 (child_count cs) start end ∷ [] =
        ap (λ b. cond b (steps_of_all (inside f.written f.flat (Node w.r o.children start end))) (steps_of (tree_of f.written f.flat (Node w.r o.children start end)))) none
        ∙ ap (λ s. steps_of (node_by s (children_of f.written f.flat o.children) start end)) source.1 in
        let after : List Step = steps_written f.written f.flat (count f.written f.flat (Node w.r o.children start end) ∷ counts) behind in
        let parts : to ≡ (before ++ steps_of_all cs) ++ RuleStep source.0 (child_count cs) start end ∷ after =
        to_is ∙ written_both f.written f.flat [] done (steps ++ behind)
        ∙ ap (λ l. before ++ l) (ap (λ s. steps_written f.written f.flat (counts_behind f.flat [] done) (s ++ behind)) own ∙ tree_written f.written f.flat (Node w.r o.children start end) (source, written) counts behind ∙ ap (λ l. l ++ after) out_is
        ∙ append_assoc (steps_of_all cs) (RuleStep source.0 (child_count cs) start end ∷ []) after)
        ∙ sym (append_assoc before (steps_of_all cs) (RuleStep source.0 (child_count cs) start end ∷ after)) in
        let sizes = sized f.written f.flat [] done in
        let kids = children_sized f.written f.flat o.children written in
        let one : rule_size (is_list_rule g w.r) (source_of g w.r) ≡ 1 = (λ k. rule_size (none k) (source.1 k)) in
        let long = length-append before (steps_of_all cs) in
        let here : length row.before ≡ length (before ++ steps_of_all cs) = (let a = at in let b = size_own in let c = row.place_is in omega (arith, a, b, c, sizes, kids, one, long)) in
        let step_is : row.step ≡ RuleStep source.0 (child_count cs) start end = at_same row.before (before ++ steps_of_all cs) row.behind after row.step (RuleStep source.0 (child_count cs) start end) (sym row.split ∙ parts) here in
        let (slot, symbol) = slot_of_rule o.rule o.dot o.symbol o.part w.r w.rule w.left (ap (λ x. is_list (symbol_at g x)) (sym w.left) ∙ none) in
        subst (IsRuleTold f (whole_key f w.r start end)) (sym step_is)
        (source.1, ends f is w.r source.0 start end slot w.rule source.1 (ap (symbol_at g) w.left ∙ symbol) o.wholes.spans o.children spans)

    slot_only : (r' : ℕ) → IsRule g r' → lhs_of g r' ≡ o.symbol → is_list_rule g w.r ≡ false → IsRuleTold f (whole_key f r' start end) row.step → w.r ≡ r'
    slot_only r' rule' left' none told' = go row.step (told_slot none) told'
      where
        go : (s : Step) → IsRuleTold f (whole_key f w.r start end) s → IsRuleTold f (whole_key f r' start end) s → w.r ≡ r'
        go (TokenStep x p q) a b = absurd a
        go (NulledStep x p) a b = absurd a
        go (RuleStep i k p q) a b =
            let (slot, symbol) = slot_of_rule o.rule o.dot o.symbol o.part w.r w.rule w.left (ap (λ x. is_list (symbol_at f.flat x)) (sym w.left) ∙ none) in
            slot_one f is w.r r' i slot w.rule rule' a.0 b.0 (w.left ∙ sym left') (ap (symbol_at f.flat) w.left ∙ symbol) (a.1 ∙ sym b.1)

    -- ---- a list's rule

    below_is : is_list_rule g w.r ≡ true → (prefix : Children) (last : Tree) → o.children ≡ Child prefix last → below ≡ size_of g done + size_of g (steps_of_all prefix)
    below_is list prefix last e =
        let s : Spans g E w.r (length (rhs_of g w.r)) start end (Child prefix last) = subst (Spans g E w.r (length (rhs_of g w.r)) start end) e spans in
        let none : is_list_node g last ≡ false = no_list_last prefix last s (length (rhs_of g w.r)) refl in
        let zero_size : rule_size (is_list_rule g w.r) (source_of g w.r) ≡ 0 = ap (λ b. rule_size b (source_of g w.r)) list in
        let moved : done ++ (steps ++ behind) ≡ done ++ (steps_of_all (Child prefix last) ++ (RuleStep w.r (child_count o.children) start end ∷ behind)) =
        ap (λ s. done ++ (s ++ behind)) own ∙ ap (λ l. done ++ l) (append_assoc (steps_of_all o.children) (RuleStep w.r (child_count o.children) start end ∷ []) behind)
        ∙ ap (λ c. done ++ (steps_of_all c ++ (RuleStep w.r (child_count o.children) start end ∷ behind))) e in
        let sizes : suc place ≡ size_of g done + size_of g (steps_of_all (Child prefix last)) =
        (let a = at in let b = size_own in let whole : suc place ≡ size_of g done + size_of g (steps_of_all o.children) = omega (arith, a, b, zero_size) in whole) ∙ ap (λ c. size_of g done + size_of g (steps_of_all c)) e in
        (row_leads f.written f.flat done (RuleStep w.r (child_count o.children) start end ∷ behind) prefix last to place from below (subst (AreWritten f.written f.flat) e written) none
        (to_is ∙ ap (steps_written f.written f.flat []) moved) sizes row).1
      where
        no_list_last : (prefix : Children) (last : Tree) → Spans g E w.r (length (rhs_of g w.r)) start end (Child prefix last) → (k : ℕ) → length (rhs_of g w.r) ≡ k → is_list_node f.flat last ≡ false
        no_list_last prefix last s zero e = (let some = is.derived.flat.some w.r w.rule in absurd (omega (arith, some, e)))
        no_list_last prefix last s (suc zero) e =
            let h = last_part f is.derived s in
            let c = h.count in
            let d : h.d ≡ 0 = omega (arith, c, e) in
            list_node f is.derived h.derives (item_no_list f is.derived w.r h.x w.rule list e (subst (λ k. part_of f.flat w.r k ≡ Some h.x) d h.part))
        no_list_last prefix last s (suc (suc k)) e = last_no_list f is.derived s (omega (arith, e))

    told_list : is_list_rule g w.r ≡ true → (length (rhs_of g w.r) ≡ 1) ↔ (below ≡ size_of g done)
    told_list list = by o.children refl spans
      where
        by : (cs : Children) → o.children ≡ cs → Spans g E w.r (length (rhs_of g w.r)) start end cs → (length (rhs_of f.flat w.r) ≡ 1) ↔ (below ≡ size_of f.flat done)
        by NoChild e s = (let c = spans_count f s in let some = is.derived.flat.some w.r w.rule in absurd (omega (arith, c, some)))
        by (Child prefix last) e s = (
          λ one. (
              let h = last_part f is.derived s in
              let c = h.count in
              let none : h.d ≡ 0 = omega (arith, c, one) in
              let empty : size_of f.flat (steps_of_all prefix) ≡ 0 = no_size prefix h.d h.m none h.before in
              let b = below_is list prefix last e in
              omega (arith, b, empty)
              ),
          λ here. (
              let h = last_part f is.derived s in
              let c = h.count in
              let b = below_is list prefix last e in
              let empty : size_of f.flat (steps_of_all prefix) ≡ 0 = omega (arith, b, here) in
              first_only prefix h.d h.m h.before c empty
              ),
        )
          where
            no_size : (prefix : Children) (d m : ℕ) → d ≡ 0 → Spans g E w.r d start m prefix → size_of f.flat (steps_of_all prefix) ≡ 0
            no_size prefix d m none Nothing = refl
            no_size prefix d m none (More s e t) = absurd (omega (arith, none))

            first_only : (prefix : Children) (d m : ℕ) → Spans g E w.r d start m prefix → length (rhs_of f.flat w.r) ≡ suc d → size_of f.flat (steps_of_all prefix) ≡ 0 → length (rhs_of f.flat w.r) ≡ 1
            first_only prefix zero m s c none = c
            first_only prefix (suc d) m s c none = (let some = children_some s (omega arith) in absurd (omega (arith, some, none)))

    -- ---- the goals of the node, aimed

    whole_count : count_of (slice_get f.nodes o.node) ≡ child_count o.children
    whole_count = ap count_of w.there ∙ ap (λ (k : NodeKey). k.dot) w.key ∙ sym (spans_count f spans)

    pub wholes_aimed : (others : List Goal) (under : List ℕ) (upper : ℕ) → upper ≡ size_of g done + size_of g (steps_of_all o.children) → AreAimed f lists (suc place) others under behind →
        AreAimed f lists (size_of g done) (whole_goals f start end o.node ++ others) ((under ++ suc place ∷ []) ++ upper ∷ []) (steps ++ behind)
    wholes_aimed others under upper upper_is rest =
        let written_is : RuleStep w.r (child_count o.children) start end ∷ [] ≡ RuleStep (rule_of (slice_get f.nodes o.node)) (count_of (slice_get f.nodes o.node)) start end ∷ [] =
        (λ i. RuleStep (sym rule_is i) (sym whole_count i) start end ∷ []) in
        subst (λ s. AreAimed f lists (size_of g done) (whole_goals f start end o.node ++ others) ((under ++ suc place ∷ []) ++ upper ∷ []) (s ++ behind)) (sym own)
        (aimed_two f lists (size_of g done) upper (suc place) (Parts o.node) (Write (RuleStep (rule_of (slice_get f.nodes o.node)) (count_of (slice_get f.nodes o.node)) start end)) others under
        (steps_of_all o.children) (RuleStep w.r (child_count o.children) start end ∷ []) behind (o.children, o.held, refl) upper_is written_is (at ∙ ap (λ s. size_of g done + size_of g s) own) rest)

    -- the aim of the parts: a list's rule writes no step, another writes one
    upper_is : (b : Bool) → is_list_rule g w.r ≡ b → cond b (suc place) place ≡ size_of g done + size_of g (steps_of_all o.children)
    upper_is true list = (let a = at in let b = size_own in let zero_size : rule_size (is_list_rule g w.r) (source_of g w.r) ≡ 0 = ap (λ b. rule_size b (source_of g w.r)) list in omega (arith, a, b, zero_size))
    upper_is false none = (let a = at in let b = size_own in let one : rule_size (is_list_rule g w.r) (source_of g w.r) ≡ 1 = (λ k. rule_size (none k) (source.1 k)) in omega (arith, a, b, one))

    -- ---- both

    told_by : (b : Bool) → is_list_rule g w.r ≡ b → IsToldBy b f (whole_key f w.r start end) row.step below (size_of g done)
    told_by true list = told_list list
    told_by false none = told_slot none

    -- the node's rule is told
    told : IsTold f w.node.key row.step below (size_of g done)
    told = subst (λ k. IsTold f k row.step below (size_of g done)) (sym w.key) (told_by (is_list_rule g w.r) refl)

    only_by : (r' : ℕ) → IsRule g r' → lhs_of g r' ≡ o.symbol → (b : Bool) → is_list_rule g w.r ≡ b → IsToldBy b f (whole_key f r' start end) row.step below (size_of g done) → w.r ≡ r'
    only_by r' rule' left' true list h =
        let own = told_list list in
        list_one f is w.r r' w.rule rule' (w.left ∙ sym left') list (λ one. h.1 (own.0 one), λ one. own.1 (h.0 one))
    only_by r' rule' left' false none h = slot_only r' rule' left' none h

    -- and no other is
    pub told_only : (n' : ℕ) (node' : ForestNode) → Contains nodes n' → slice_get f.nodes n' ≡ Some node' → IsTold f node'.key row.step below (size_of g done) → o.node ≡ n'
    told_only n' node' held there' h =
        let b = whole_at o.symbol start end nodes o.wholes n' held in
        let same : Some b.node ≡ Some node' = sym b.there ∙ there' in
        let node_is : b.node ≡ node' = cc in
        let key : node'.key ≡ whole_key f b.r start end = ap (λ (x : ForestNode). x.key) (sym node_is) ∙ b.key in
        let told' : IsToldBy (is_list_rule f.flat b.r) f (whole_key f b.r start end) row.step below (size_of f.flat done) = subst (λ k. IsTold f k row.step below (size_of f.flat done)) key h in
        let lists_same : is_list_rule f.flat b.r ≡ is_list_rule f.flat w.r = ap (λ x. is_list (symbol_at f.flat x)) (b.left ∙ sym w.left) in
        same_node o.symbol start end nodes o.wholes o.node n' w b
        (only_by b.r b.rule b.left (is_list_rule f.flat w.r) refl (subst (λ z. IsToldBy z f (whole_key f b.r start end) row.step below (size_of f.flat done)) lists_same told'))

    -- ---- by the node's number

    node_same : w.node ≡ node_at f o.node
    node_same = some_one w.node (node_at f o.node) (sym w.there ∙ at_node f o.node (slice_get_within f.nodes o.node w.node w.there))
      where
        some_one : (x y : ForestNode) → Some x ≡ Some y → x ≡ y
        some_one x y e = cc

    pub told_node : IsTold f (node_at f o.node).key row.step below (size_of g done)
    told_node = subst (λ (x : ForestNode). IsTold f x.key row.step below (size_of g done)) node_same told

    pub upper_node : cond (is_list_rule g (node_at f o.node).key.rule) (suc place) place ≡ size_of g done + size_of g (steps_of_all o.children)
    upper_node =
        let rule : w.r ≡ (node_at f o.node).key.rule = ap (λ (k : NodeKey). k.rule) (sym w.key) ∙ ap (λ (x : ForestNode). x.key.rule) node_same in
        ap (λ r. cond (is_list_rule g r) (suc place) place) (sym rule) ∙ upper_is (is_list_rule g w.r) refl
