-- A flat derivation has few steps: a list's node has an item of its own, which is a child of the written node.
use Rattle.std.proofs.Common.{◌≡◌, ℕ, zero, suc, ◌<◌, ◌≤◌, ◌+◌, Bool, true, false, cond, List, [], ◌∷◌, ◌++◌, length, map, Some, refl, sym, ap, ◌∙◌, subst, length-append, arith}
use Rattle.std.specs.Prelude.{slice_get, slice_index_or}
use Rattle.std.proofs.lemmas.List.{length-map}
use Rattle.std.proofs.lemmas.Option.{slice_get-get_or}
use Rattle.finite_sets.proofs.Members.{contains_from, among_map}
use Rattle.finite_sets.proofs.Lists.{get_map, get_among}
use Rattle.grammar_model.specs.Grammar.{Grammar, slot_of}
use Rattle.grammar_model.specs.Trees.{Tree, Children, Node, NoChild, Child, child_count}
use Rattle.grammar_model.specs.Derives.{Edges}
use Rattle.grammar_model.specs.Steps.{RuleStep, steps_of, steps_of_all}
use Rattle.recognizer_model.specs.declared.flat.FlatSymbol.{FlatSymbol}
use Rattle.recognizer_model.specs.declared.flat.FlatSymbol.TheVariants.{Sequence, Top}
use Rattle.recognizer_model.specs.declared.flat.FlatSource.TheVariants.{Written, Top as OfStart}
use Rattle.recognizer_model.specs.Flat.{FlatGrammar, FlatRule, no_rule, IsRule, lhs_of, rhs_of, source_of, part_of}
use Rattle.recognizer_model.specs.FlatDerives.{Derives, Spans, Token, Null, Rule, More}
use Rattle.recognizer_model.specs.FlatDerives
use Rattle.recognizer_model.specs.FlatForm.{NamedRule, named, IsRuleOf, OfPlain, OfList, OfTrailing, OfItem, OfItems, OfSeparated, OfTop, symbol_at, is_list, is_list_node, tree_of, children_of, inside, join, node_by}
use Rattle.recognizer_model.specs.Links.{choices, choices_among}
use Rattle.forest_model.specs.Forest.{Forest, edges_of, top_of, IsDerived}
use Rattle.forest_laws.proofs.Written.{no_list, count_join, IsNoTop, part_no_top, source_written, top_is, start_is, only_child}
use Rattle.forest_laws.specs.Few.{StepsAreFew}

choices_join : (a b : Children) → choices_among (join a b) ≡ choices_among a + choices_among b
choices_join a NoChild = omega arith
choices_join a (Child b t) = let h = choices_join a b in omega arith

-- what children have to spare for the nodes of lists among them
abbrev room : Children → ℕ
room children = choices_among children + child_count children

-- ---- the last part of a list's rule is an item, which is no list

abbrev EndsWithItem : List FlatSymbol → Type 0
EndsWithItem right = (d : ℕ) (s : FlatSymbol) → slice_get right d ≡ Some s → suc d ≡ length right → is_list s ≡ false

one_ends : (b : FlatSymbol) → is_list b ≡ false → EndsWithItem (b ∷ [])
one_ends b none zero s e l = let same : b ≡ s = cc in subst (λ x. is_list x ≡ false) same none
one_ends b none (suc d) s e l = absurd (omega arith)

more_ends : (a : FlatSymbol) (right : List FlatSymbol) → 0 < length right → EndsWithItem right → EndsWithItem (a ∷ right)
more_ends a right some h zero s e l = absurd (omega arith)
more_ends a right some h (suc d) s e l = h d s e (omega arith)

list_ends : (w : Grammar) (n : NamedRule) → IsRuleOf w n → is_list n.left ≡ true → EndsWithItem n.right
list_ends w n (OfPlain i s l r right a b c d e f h j) list = cc
list_ends w n (OfList i r a b) list = cc
list_ends w n (OfTrailing i separator r c a b d e f h) list = cc
list_ends w n (OfItem i r b a c d) list = one_ends b (no_list w (slot_of r.item) b d)
list_ends w n (OfItems i r b a c d e) list = more_ends (Sequence i) (b ∷ []) (omega arith) (one_ends b (no_list w (slot_of r.item) b e))
list_ends w n (OfSeparated i separator r b c a d e f h j) list =
    more_ends (Sequence i) (c ∷ b ∷ []) (omega arith) (more_ends c (b ∷ []) (omega arith) (one_ends b (no_list w (slot_of r.item) b j)))
list_ends w n (OfTop k start s a st) list = cc

module _ (f : Forest) (derived : IsDerived f) where
  abbrev g : FlatGrammar
  g = f.flat

  abbrev w : Grammar
  w = f.written

  abbrev E : Edges
  E = edges_of f

  last_item : (r d x : ℕ) → IsRule g r → is_list (symbol_at g (lhs_of g r)) ≡ true → part_of g r d ≡ Some x → suc d ≡ length (rhs_of g r) → is_list (symbol_at g x) ≡ false
  last_item r d x rule list part last =
      let it : FlatRule = slice_index_or g.rules r no_rule in
      let at = get_among g.rules r it (slice_get-get_or g.rules r no_rule rule) in
      let named_is = (derived.flat_of.rules.exact (named g it)).0 (contains_from (map (named g) g.rules) (named g it) (among_map (named g) it g.rules at)) in
      list_ends w (named g it) named_is list d (symbol_at g x) (get_map (symbol_at g) it.rhs d x part) (last ∙ sym (length-map it.rhs (symbol_at g)))

  -- one where a tree is no list's
  abbrev single : Tree → ℕ
  single t = cond (is_list_node g t) 0 1

  abbrev single_last : Children → ℕ
  single_last NoChild = 0
  single_last (Child prefix last) = single last

  -- what a tree has to spare as a child
  abbrev room_of : Tree → ℕ
  room_of t = cond (is_list_node g t) (room (inside w g t)) (suc (choices (tree_of w g t)))

  room_more : (prefix : Children) (last : Tree) → room (children_of w g (Child prefix last)) ≡ room (children_of w g prefix) + room_of last
  room_more prefix last = go (is_list_node g last)
    where
      go : (b : Bool) → room (cond b (join (children_of w g prefix) (inside w g last)) (Child (children_of w g prefix) (tree_of w g last)))
          ≡ room (children_of w g prefix) + cond b (room (inside w g last)) (suc (choices (tree_of w g last)))
      go true = let a = choices_join (children_of w g prefix) (inside w g last) in let b = count_join (children_of w g prefix) (inside w g last) in omega arith
      go false = omega arith

  -- a token and a nulled symbol are no list
  at_symbol : (x : ℕ) (s : FlatSymbol) → slice_get g.symbols x ≡ Some s → symbol_at g x ≡ s
  at_symbol x s e = go g.symbols x e
    where
      go : (ss : List FlatSymbol) (k : ℕ) → slice_get ss k ≡ Some s → slice_index_or ss k (Top 0) ≡ s
      go [] k e = cc
      go (y ∷ ys) zero e = cc
      go (y ∷ ys) (suc k) e = go ys k e

  plain_node : {x p q : ℕ} {t : Tree} → Derives g E x p q t → is_list (symbol_at g x) ≡ false → is_list_node g t ≡ false
  plain_node (Token e) h = refl
  plain_node (Null n) h = refl
  plain_node (Rule rule l lt s) h = ap (λ y. is_list (symbol_at g y)) l ∙ h

  -- the last child of a list's node is no list
  list_last : {r n p q : ℕ} {cs : Children} → Spans g E r n p q cs → n ≡ length (rhs_of g r) → IsRule g r → is_list (symbol_at g (lhs_of g r)) ≡ true → single_last cs ≡ 1
  list_last {r = r} FlatDerives.Nothing all rule list = let some = derived.flat.some r rule in absurd (omega arith)
  list_last (More {r = r} {d = d} {x = x} {t = t} s e d') all rule list =
      let none = plain_node d' (last_item r d x rule list e all) in ap (λ b. cond b 0 1) none

  mutual
    tree_few : {x p q : ℕ} {t : Tree} → Derives g E x p q t → IsNoTop f derived x → length (steps_of t) + single t ≤ room_of t
    tree_few (Token e) other = omega arith
    tree_few (Null n) other = omega arith
    tree_few (Rule {p = p} {q = q} {r = r} {cs = cs} rule l lt s) other =
        let children = children_few s in
        let (i, source) = source_written f derived r rule (subst (IsNoTop f derived) (sym l) other) in
        let longer = length-append (steps_of_all cs) (RuleStep r (child_count cs) p q ∷ []) in
        go (is_list (symbol_at g (lhs_of g r))) refl i source children longer
      where
        go : (b : Bool) → is_list (symbol_at g (lhs_of g r)) ≡ b → (i : ℕ) → source_of g r ≡ Written i → length (steps_of_all cs) + single_last cs ≤ room (children_of w g cs) →
            length (steps_of_all cs ++ RuleStep r (child_count cs) p q ∷ []) ≡ length (steps_of_all cs) + 1 →
            length (steps_of_all cs ++ RuleStep r (child_count cs) p q ∷ []) + cond (is_list (symbol_at g (lhs_of g r))) 0 1
            ≤ cond (is_list (symbol_at g (lhs_of g r))) (room (children_of w g cs)) (suc (choices (node_by (source_of g r) (children_of w g cs) p q)))
        go true list i source few longer =
            let last = list_last s refl rule list in
            subst (λ b. length (steps_of_all cs ++ RuleStep r (child_count cs) p q ∷ []) + cond b 0 1 ≤ cond b (room (children_of w g cs)) (suc (choices (node_by (source_of g r) (children_of w g cs) p q)))) (sym list)
            (omega arith)
        go false plain i source few longer =
            subst (λ b. length (steps_of_all cs ++ RuleStep r (child_count cs) p q ∷ []) + cond b 0 1 ≤ cond b (room (children_of w g cs)) (suc (choices (node_by (source_of g r) (children_of w g cs) p q)))) (sym plain)
            (subst (λ z. length (steps_of_all cs ++ RuleStep r (child_count cs) p q ∷ []) + 1 ≤ suc (choices (node_by z (children_of w g cs) p q))) (sym source) (omega arith))

    children_few : {r d p q : ℕ} {cs : Children} → Spans g E r d p q cs → length (steps_of_all cs) + single_last cs ≤ room (children_of w g cs)
    children_few FlatDerives.Nothing = omega arith
    children_few (More {r = r} {d = d} {x = x} {cs = prefix} {t = t} s e d') =
        let before = children_few s in
        let last = tree_few d' (part_no_top f derived r d x e) in
        let both = length-append (steps_of_all prefix) (steps_of t) in
        let more = room_more prefix t in
        omega arith

  abbrev IsFew : Tree → Type 0
  IsFew t = length (steps_of t) ≤ suc (choices (tree_of w g t))

  one_child : (r p q k : ℕ) (t : Tree) → source_of g r ≡ OfStart k → length (steps_of t) + single t ≤ room_of t → is_list_node g t ≡ false → IsFew (Node r (Child NoChild t) p q)
  one_child r p q k t source few none =
      let longer = length-append (steps_of t) (RuleStep r 1 p q ∷ []) in
      let plain : length (steps_of t) + 1 ≤ suc (choices (tree_of w g t)) = subst (λ b. length (steps_of t) + cond b 0 1 ≤ cond b (room (inside w g t)) (suc (choices (tree_of w g t)))) none few in
      subst (λ z. length (steps_of t ++ RuleStep r 1 p q ∷ []) ≤ suc (choices (node_by z (children_of w g (Child NoChild t)) p q))) (sym source)
      (subst (λ b. length (steps_of t ++ RuleStep r 1 p q ∷ []) ≤ suc (choices (node_by (OfStart k) (cond b (join NoChild (inside w g t)) (Child NoChild (tree_of w g t))) p q))) (sym none)
      (omega arith))

  few : {x p q : ℕ} {t : Tree} → Derives g E x p q t → x ≡ lhs_of g (top_of f) → IsFew t
  few (Token e) is = omega arith
  few (Null n) is = omega arith
  few (Rule {p = p} {q = q} {r = r} {cs = cs} rule l lt s) is =
      let start = top_is f derived in
      let top : r ≡ top_of f = start.is_top.alone r rule (l ∙ is) in
      let (x, m, t, only, part, d) = only_child f derived s (ap (λ z. length (rhs_of g z)) top ∙ start.one) in
      let source : source_of g r ≡ OfStart f.start = ap (source_of g) top ∙ start.source in
      subst (λ c. IsFew (Node r c p q)) (sym only)
      (one_child r p q f.start t source (tree_few d (part_no_top f derived r 0 x part)) (plain_node d (start_is f derived x (subst (λ z. part_of g z 0 ≡ Some x) top part))))

pub steps_are_few : StepsAreFew
steps_are_few f derived tree d = few f derived d refl
