-- A flat grammar's derivations have a list, and so have those of its written grammar.
use Rattle.std.proofs.Common.{◌≡◌, ◌≢◌, ℕ, zero, suc, ◌<◌, ◌≤◌, ◌+◌, Bool, true, false, cond, List, [], ◌∷◌, map, length, ◌⊎◌, inl, inr, ⊎_elim, Some, refl, sym, ap, ◌∙◌, subst, arith}
use Rattle.std.specs.Prelude.{◌==◌, ◌&&◌, ◌||◌, ◌↔◌, nat_lt, slice_get, slice_index, slice_index_or}
use Rattle.std.specs.List.{list_any}
use Rattle.std.specs.List.Sorted.{IsStrictlySortedBy}
use Rattle.std.specs.declared.cmp.Ordering.{Ordering}
use Rattle.std.specs.declared.cmp.Ordering.TheVariants.{Less, Equal, Greater}
use Rattle.std.specs.Ordering.{ordering_reverse}
use Rattle.std.proofs.lemmas.Bool.{true≢false, cases_eq, cond_both, cond-true, eqb-true, eq-eqb, lt-ltb, and_parts, and_from, or_cases, ltb-true}
use Rattle.std.proofs.Math.Bool.{or-true}
use Rattle.finite_sets.proofs.Lists.{get_index}
use Rattle.finite_sets.proofs.Members.{among_from, contains_from, among_map, among_map_from, Among}
use Rattle.grammar_model.specs.Grammar.{Grammar, Slot, slot_of, rule_at, Fits, child_slot, slot_count, IsPlain}
use Rattle.grammar_model.specs.Grammar
use Rattle.grammar_model.specs.Trees.{Tree}
use Rattle.grammar_model.specs.Analysis
use Rattle.grammar_model.specs.Derives.{Held, Derives}
use Rattle.grammar_model.specs.declared.Edge.{Edge}
use Rattle.grammar_model.specs.declared.Ranking.{Ranking}
use Rattle.grammar_model.specs.Order.{RuleOrder, rank_order, tree_cmp}
use Rattle.grammar_model.specs.All.{IsAll}
use Rattle.grammar_model.specs.Simple.{Tested, is_terminal, fits}
use Rattle.grammar_model.proofs.Simple.{terminal_from, is_terminal_from, fits_from, from_fits}
use Rattle.grammar_model.proofs.Lists.{each_from, each_at, sorted_map}
use Rattle.grammar_model.proofs.Lister.{a_list}
use Rattle.grammar_model.proofs.Characters.{all_so}
use Rattle.recognizer_model.specs.Flat.{FlatGrammar, lhs_of, rhs_of, part_of, IsNullable}
use Rattle.recognizer_model.specs.declared.flat.FlatSymbol.{FlatSymbol}
use Rattle.recognizer_model.specs.declared.flat.FlatSymbol.TheVariants.{Terminal, Slot as AtLevel, Sequence, Top}
use Rattle.recognizer_model.specs.View.{plain_rule, grammar_view}
use Rattle.recognizer_model.specs.Invariant.{IsFlat, LeadsOver}
use Rattle.recognizer_model.specs.FlatForm.{IsFlatForm, StandsFor, symbol_at, flat_order, FlatEdges, tree_of}
use Rattle.recognizer_model.proofs.Views.{IsKindOf, kind_of, rule_viewed, nullable_viewed, marked_back, index_get}
use Rattle.recognizer_model.proofs.FlatNamed.{get_or}
use Rattle.recognizer_model.proofs.FlatKeeps.{flat_order_laws}

-- ---- sorting by insertion

module _ (cmp : ℕ → ℕ → Ordering) (turned : (x y : ℕ) → cmp x y ≡ ordering_reverse (cmp y x)) (follows : (x y z : ℕ) → cmp x y ≡ Less → cmp y z ≡ Less → cmp x z ≡ Less) where
  abbrev put_by : Ordering → ℕ → ℕ → List ℕ → List ℕ → List ℕ
  put_by Less x y ys rest = x ∷ y ∷ ys
  put_by Equal x y ys rest = y ∷ rest
  put_by Greater x y ys rest = y ∷ rest

  abbrev put : ℕ → List ℕ → List ℕ
  put x [] = x ∷ []
  put x (y ∷ ys) = put_by (cmp x y) x y ys (put x ys)

  among_put : (x z : ℕ) (ys : List ℕ) → Among z (put x ys) → (z ≡ x) ⊎ Among z ys
  among_put x z [] (inl e) = inl (sym e)
  among_put x z [] (inr h) = absurd h
  among_put x z (y ∷ ys) h = go (among_put x z ys) (cmp x y) h
    where
      go : (Among z (put x ys) → (z ≡ x) ⊎ Among z ys) → (o : Ordering) → Among z (put_by o x y ys (put x ys)) → (z ≡ x) ⊎ Among z (y ∷ ys)
      go ih Less (inl e) = inl (sym e)
      go ih Less (inr h) = inr h
      go ih Equal (inl e) = inr (inl e)
      go ih Equal (inr h) = ⊎_elim (λ e. inl e) (λ m. inr (inr m)) (ih h)
      go ih Greater (inl e) = inr (inl e)
      go ih Greater (inr h) = ⊎_elim (λ e. inl e) (λ m. inr (inr m)) (ih h)

  put_among : (x z : ℕ) (ys : List ℕ) → (z ≡ x) ⊎ Among z ys → Among z (put x ys)
  put_among x z [] (inl e) = inl (sym e)
  put_among x z [] (inr h) = absurd h
  put_among x z (y ∷ ys) h = go (put_among x z ys) (cmp x y) h
    where
      go : ((z ≡ x) ⊎ Among z ys → Among z (put x ys)) → (o : Ordering) → (z ≡ x) ⊎ Among z (y ∷ ys) → Among z (put_by o x y ys (put x ys))
      go ih Less (inl e) = inl (sym e)
      go ih Less (inr h) = inr h
      go ih Equal (inl e) = inr (ih (inl e))
      go ih Equal (inr (inl e)) = inl e
      go ih Equal (inr (inr h)) = inr (ih (inr h))
      go ih Greater (inl e) = inr (ih (inl e))
      go ih Greater (inr (inl e)) = inl e
      go ih Greater (inr (inr h)) = inr (ih (inr h))

  put_sorted : (x : ℕ) (ys : List ℕ) → IsStrictlySortedBy cmp ys → ((y : ℕ) → Among y ys → cmp x y ≢ Equal) → IsStrictlySortedBy cmp (put x ys)
  unfolding IsStrictlySortedBy
  put_sorted x [] s ne = (tt, tt)
  put_sorted x (y ∷ ys) s ne = go (put_sorted x ys s.1 (λ z m. ne z (inr m))) (cmp x y) refl
    where
      go : IsStrictlySortedBy cmp (put x ys) → (o : Ordering) → cmp x y ≡ o → IsStrictlySortedBy cmp (put_by o x y ys (put x ys))
      go ih Less e = ((e, each_from (λ z. cmp x z ≡ Less) ys (λ z m. follows x y z e (each_at (λ w. cmp y w ≡ Less) ys z s.0 m))), s)
      go ih Equal e = absurd (ne y (inl refl) e)
      go ih Greater e =
          let first : cmp y x ≡ Less = turned y x ∙ ap ordering_reverse e in
          (each_from (λ z. cmp y z ≡ Less) (put x ys) (λ z m. ⊎_elim (λ same. ap (cmp y) same ∙ first) (λ k. each_at (λ w. cmp y w ≡ Less) ys z s.0 k) (among_put x z ys m)), ih)

  -- the numbers below n that pass a test, in order
  abbrev sorted_below : (ℕ → Bool) → ℕ → List ℕ
  sorted_below test zero = []
  sorted_below test (suc n) = cond (test n) (put n (sorted_below test n)) (sorted_below test n)

  below_among : (test : ℕ → Bool) (n z : ℕ) → Among z (sorted_below test n) → (z < n) × (test z ≡ true)
  below_among test zero z m = absurd m
  below_among test (suc n) z m = go (below_among test n z) (test n) refl m
    where
      go : (Among z (sorted_below test n) → (z < n) × (test z ≡ true)) → (b : Bool) → test n ≡ b → Among z (cond b (put n (sorted_below test n)) (sorted_below test n)) → (z < suc n) × (test z ≡ true)
      go ih true e m = ⊎_elim (λ same. (omega arith, ap test same ∙ e)) (λ k. (let h = ih k in (let l = h.0 in omega arith, h.1))) (among_put n z (sorted_below test n) m)
      go ih false e m = let h = ih m in (let l = h.0 in omega arith, h.1)

  among_below : (test : ℕ → Bool) (n z : ℕ) → z < n → test z ≡ true → Among z (sorted_below test n)
  among_below test zero z lt e = absurd (omega arith)
  among_below test (suc n) z lt e = go (λ h. among_below test n z h e) (test n) refl (cases_eq z n)
    where
      go : (z < n → Among z (sorted_below test n)) → (b : Bool) → test n ≡ b → (z ≡ n) ⊎ (z ≡ n → ⊥) → Among z (cond b (put n (sorted_below test n)) (sorted_below test n))
      go ih true t (inl same) = put_among n z (sorted_below test n) (inl same)
      go ih true t (inr ne) = put_among n z (sorted_below test n) (inr (ih (omega arith)))
      go ih false t (inl same) = absurd (true≢false (sym e ∙ ap test same ∙ t))
      go ih false t (inr ne) = ih (omega arith)

  below_sorted : ((x y : ℕ) → cmp x y ≡ Equal → x ≡ y) → (test : ℕ → Bool) (n : ℕ) → IsStrictlySortedBy cmp (sorted_below test n)
  unfolding IsStrictlySortedBy
  below_sorted one test zero = tt
  below_sorted one test (suc n) = go (below_sorted one test n) (test n)
    where
      go : IsStrictlySortedBy cmp (sorted_below test n) → (b : Bool) → IsStrictlySortedBy cmp (cond b (put n (sorted_below test n)) (sorted_below test n))
      go ih true = put_sorted n (sorted_below test n) ih (λ y m e. (let h = (below_among test n y m).0 in let same = one n y e in omega arith))
      go ih false = ih

-- ---- heights have a bound

abbrev sum_below : (ℕ → ℕ) → ℕ → ℕ
sum_below h zero = 0
sum_below h (suc n) = h n + sum_below h n

below_sum : (h : ℕ → ℕ) (n x : ℕ) → x < n → h x ≤ sum_below h n
below_sum h zero x lt = absurd (omega arith)
below_sum h (suc n) x lt = go (λ k. below_sum h n x k) (cases_eq x n)
  where
    go : (x < n → h x ≤ sum_below h n) → (x ≡ n) ⊎ (x ≡ n → ⊥) → h x ≤ h n + sum_below h n
    go ih (inl e) = let same = ap h e in omega arith
    go ih (inr ne) = let k = ih (omega arith) in omega arith

-- ---- edges that a test tells

abbrev is_edge : ℕ → ℕ → ℕ → Edge → Bool
is_edge t p q e = (e.symbol == t) && ((e.from == p) && (e.to == q))

edge_from : (t p q : ℕ) (edges : List Edge) → list_any (is_edge t p q) edges ≡ true → Among (record { symbol = t; from = p; to = q }) edges
edge_from t p q [] e = absurd (true≢false (sym e))
edge_from t p q (x ∷ xs) e = go (edge_from t p q xs) (or_cases _ _ e)
  where
    go : (list_any (is_edge t p q) xs ≡ true → Among (record { symbol = t; from = p; to = q }) xs) → (is_edge t p q x ≡ true) ⊎ (list_any (is_edge t p q) xs ≡ true) → Among (record { symbol = t; from = p; to = q }) (x ∷ xs)
    go ih (inl h) =
        let (a, b) = and_parts (x.symbol == t) ((x.from == p) && (x.to == q)) h in
        let (c, d) = and_parts (x.from == p) (x.to == q) b in
        inl (λ z. record { symbol = eqb-true x.symbol t a z; from = eqb-true x.from p c z; to = eqb-true x.to q d z })
    go ih (inr h) = inr (ih h)

from_edge : (t p q : ℕ) (edges : List Edge) → Among (record { symbol = t; from = p; to = q }) edges → list_any (is_edge t p q) edges ≡ true
from_edge t p q [] m = absurd m
from_edge t p q (x ∷ xs) (inl e) =
    let here : is_edge t p q x ≡ true = and_from _ _ (eq-eqb _ _ (ap (λ (z : Edge). z.symbol) e)) (and_from _ _ (eq-eqb _ _ (ap (λ (z : Edge). z.from) e)) (eq-eqb _ _ (ap (λ (z : Edge). z.to) e))) in
    ap (λ b. b || list_any (is_edge t p q) xs) here
from_edge t p q (x ∷ xs) (inr m) = ap (λ b. is_edge t p q x || b) (from_edge t p q xs m) ∙ or-true (is_edge t p q x)

-- ---- the flat grammar

module _ (f : FlatGrammar) (w : Grammar) (flat : IsFlat f) (ranking : Ranking) where
  abbrev F : Grammar
  F = grammar_view f

  abbrev order : RuleOrder
  order = flat_order w ranking f

  -- a rule of the view is a plain rule of level 0
  view_plain : (i : ℕ) → i < length F.rules → (l : ℕ) × (parts : List ℕ) × (rule_at F i ≡ plain_rule l parts)
  view_plain i lt = go (kind_of f i lt)
    where
      go : IsKindOf f i → (l : ℕ) × (parts : List ℕ) × (rule_at F i ≡ plain_rule l parts)
      go (inl rule) = (lhs_of f i, rhs_of f i, rule_viewed f i rule)
      go (inr (x, m, e)) = (x, [], e)

  all_plain : (i : ℕ) → i < length F.rules → IsPlain (rule_at F i)
  all_plain i lt = let (l, parts, e) = view_plain i lt in subst IsPlain (sym e) tt

  -- which slots are nullable
  abbrev marked : ℕ → Bool
  marked x = slice_index_or f.nullable x false

  abbrev null : Slot → Bool
  null s = (s.level == 0) && marked s.symbol

  marked_at : (x : ℕ) → marked x ≡ true → IsNullable f x
  marked_at x e = go (get_or f.nullable x false)
    where
      go : (slice_get f.nullable x ≡ Some (marked x)) ⊎ (marked x ≡ false) → IsNullable f x
      go (inl h) = h ∙ ap Some e
      go (inr h) = absurd (true≢false (sym e ∙ h))

  null_to : (s : Slot) → null s ≡ true → Analysis.IsNullable F s
  null_to s e =
      let (l, m) = and_parts _ _ e in
      let level : s.level ≡ 0 = eqb-true _ _ l in
      let same : slot_of s.symbol ≡ s = λ z. record { symbol = s.symbol; level = sym level z } in
      subst (Analysis.IsNullable F) same (nullable_viewed f s.symbol (marked_at s.symbol m))

  null_from : (s : Slot) → Analysis.IsNullable F s → null s ≡ true
  null_from s (zero, h) = absurd h
  null_from s (suc k, h) =
      let m = marked_back f flat.marks (suc k) s h in
      let (i, lt, fit, how) = h in
      let (l, parts, e) = view_plain i lt in
      let low = (subst (λ z. Fits z s) e fit).1 in
      and_from _ _ (eq-eqb _ _ (omega arith)) (get_index f.nullable s.symbol false true m).1

  -- the rules of a slot, in order
  abbrev by_order : ℕ → ℕ → Ordering
  by_order i j = order.cmp i (slot_count (rule_at F i)) j (slot_count (rule_at F j))

  order_turned : (i j : ℕ) → by_order i j ≡ ordering_reverse (by_order j i)
  order_turned i j = (flat_order_laws w ranking f).total.antisymm (i, slot_count (rule_at F i)) (j, slot_count (rule_at F j))

  order_follows : (i j k : ℕ) → by_order i j ≡ Less → by_order j k ≡ Less → by_order i k ≡ Less
  order_follows i j k = (flat_order_laws w ranking f).total.trans (i, slot_count (rule_at F i)) (j, slot_count (rule_at F j)) (k, slot_count (rule_at F k))

  order_one : (i j : ℕ) → by_order i j ≡ Equal → i ≡ j
  order_one i j e = (flat_order_laws w ranking f).same_rule i (slot_count (rule_at F i)) j (slot_count (rule_at F j)) e

  abbrev rules_of : Slot → List ℕ
  rules_of s = sorted_below by_order order_turned order_follows (λ i. fits (rule_at F i) s) (length F.rules)

  rules_are : (s : Slot) (i : ℕ) → Among i (rules_of s) ↔ ((i < length F.rules) × Fits (rule_at F i) s)
  rules_are s i = (
    (λ m. (let h = below_among by_order order_turned order_follows (λ i. fits (rule_at F i) s) (length F.rules) i m in (h.0, fits_from (rule_at F i) s h.1))),
    (λ h. among_below by_order order_turned order_follows (λ i. fits (rule_at F i) s) (length F.rules) i h.0 (from_fits (rule_at F i) s h.1)),
  )

  -- heights of the symbols that there are
  abbrev height : Slot → ℕ
  height s = cond (nat_lt s.symbol (length f.symbols)) (flat.heights.height s.symbol) 0

  abbrev top : ℕ
  top = suc (sum_below flat.heights.height (length f.symbols))

  capped : (s : Slot) → height s < top
  capped s = cond_both (nat_lt s.symbol (length f.symbols)) (flat.heights.height s.symbol) 0 (λ h. h < top)
      (λ e. (let k = below_sum flat.heights.height (length f.symbols) s.symbol (ltb-true _ _ e) in omega arith)) (λ e. omega arith)

  height_is : (x : ℕ) → x < length f.symbols → (s : Slot) → s.symbol ≡ x → height s ≡ flat.heights.height x
  height_is x lt s e = ap (λ z. cond (nat_lt z (length f.symbols)) (flat.heights.height z) 0) e ∙ cond-true _ _ _ (lt-ltb _ _ lt)

  falls : (s : Slot) (i k : ℕ) → i < length F.rules → Fits (rule_at F i) s → k < slot_count (rule_at F i) →
      ((j : ℕ) → j < slot_count (rule_at F i) → j ≢ k → Analysis.IsNullable F (child_slot (rule_at F i) j)) → height (child_slot (rule_at F i) k) < height s
  falls s i k lt fit h others = go (kind_of f i lt)
    where
      go : IsKindOf f i → height (child_slot (rule_at F i) k) < height s
      go (inr (x, m, e)) = let none : slot_count (rule_at F i) ≡ 0 = ap slot_count e in absurd (omega arith)
      go (inl rule) =
          let e = rule_viewed f i rule in
          let count : slot_count (rule_at F i) ≡ length (rhs_of f i) = ap slot_count e in
          let part : ℕ = slice_index (rhs_of f i) k in
          let at : part_of f i k ≡ Some part = index_get (rhs_of f i) k (omega arith) in
          let over : LeadsOver f i k = λ other x ne is.
          (let inside = get_index (rhs_of f i) other 0 x is in
          let n = others other (omega (arith, inside.0)) ne in
          let m = marked_back f flat.marks n.0 (child_slot (rule_at F i) other) n.1 in
          let slot : child_slot (rule_at F i) other ≡ slot_of (slice_index (rhs_of f i) other) = ap (λ z. child_slot z other) e in
          subst (IsNullable f) (ap (λ (z : Slot). z.symbol) slot ∙ inside.1) m) in
          let lower = flat.heights.falls i k part rule at over in
          let left : lhs_of f i ≡ s.symbol = (subst (λ z. Fits z s) e fit).0 in
          let slot : child_slot (rule_at F i) k ≡ slot_of part = ap (λ z. child_slot z k) e in
          let a = height_is part (flat.in_range.parts i k part rule at) (child_slot (rule_at F i) k) (ap (λ (z : Slot). z.symbol) slot) in
          let b = height_is (lhs_of f i) (flat.in_range.left i rule) s (sym left) in
          omega (arith, a, b, lower)

  -- ---- edges

  module _ (edges : List Edge) (forward : (s p q : ℕ) → Held edges s p q → p < q) where
    abbrev test_by : FlatSymbol → ℕ → ℕ → Bool
    test_by (Terminal t) p q = list_any (is_edge t p q) edges
    test_by (AtLevel s k) p q = false
    test_by (Sequence i) p q = false
    test_by (Top k) p q = false

    abbrev test : ℕ → ℕ → ℕ → Bool
    test x p q = test_by (symbol_at f x) p q

    test_from : (x p q : ℕ) → FlatEdges f (Held edges) x p q → Tested test x p q
    test_from x p q (t, is, h) =
        ap (λ z. test_by z p q) (get_index f.symbols x (Top 0) (Terminal t) is).1 ∙ from_edge t p q edges (among_from edges _ h)

    from_test : (x p q : ℕ) → Tested test x p q → FlatEdges f (Held edges) x p q
    from_test x p q h = go (symbol_at f x) refl (get_or f.symbols x (Top 0))
      where
        go : (s : FlatSymbol) → symbol_at f x ≡ s → (slice_get f.symbols x ≡ Some (symbol_at f x)) ⊎ (symbol_at f x ≡ Top 0) → FlatEdges f (Held edges) x p q
        go (Terminal t) e (inl is) = (t, is ∙ ap Some e, contains_from edges _ (edge_from t p q edges (ap (λ z. test_by z p q) (sym e) ∙ h)))
        go (Terminal t) e (inr bad) = let worse : Terminal t ≡ Top 0 = sym e ∙ bad in cc
        go (AtLevel s k) e o = absurd (true≢false (sym h ∙ ap (λ z. test_by z p q) e))
        go (Sequence i) e o = absurd (true≢false (sym h ∙ ap (λ z. test_by z p q) e))
        go (Top k) e o = absurd (true≢false (sym h ∙ ap (λ z. test_by z p q) e))

    test_forward : (x p q : ℕ) → Tested test x p q → p < q
    test_forward x p q h = let (t, is, e) = from_test x p q h in forward t p q e

    pub flat_list : (slot : Slot) (p q : ℕ) → (trees : List Tree) × IsAll F (FlatEdges f (Held edges)) order slot p q trees
    flat_list slot p q =
        let (trees, all) = a_list F test null (λ s. is_terminal F s.symbol) rules_of test_forward (λ s. (null_to s, null_from s)) order (flat_order_laws w ranking f) all_plain
        (λ s. (terminal_from F s.symbol, is_terminal_from F s.symbol))
        (λ s. below_sorted by_order order_turned order_follows order_one (λ i. fits (rule_at F i) s) (length F.rules)) rules_are height top capped falls slot p q in
        (trees, all_so F (Tested test) (FlatEdges f (Held edges)) order slot p q trees from_test test_from all)

    -- what a flat list stands for is the written list
    module _ (form : IsFlatForm f w (Held edges) ranking) where
      pub written_all : (x p q : ℕ) (slot : Slot) (trees : List Tree) → x < length f.symbols → StandsFor w (symbol_at f x) slot → IsAll F (FlatEdges f (Held edges)) order (slot_of x) p q trees →
          IsAll w (Held edges) (rank_order w ranking) slot p q (map (tree_of w f) trees)
      written_all x p q slot trees lt st all = record {
        sorted = sorted_map (tree_cmp order) (tree_cmp (rank_order w ranking)) (tree_of w f) trees all.sorted
            (λ t u a b less. sym (form.in_order x p q slot t u lt st (derived t a) (derived u b)) ∙ less);
        each = λ t. (
          λ c. (let m = among_map_from (tree_of w f) t trees (among_from _ t c) in
              subst (Derives w (Held edges) slot p q) m.2 (form.sound x p q slot m.0 lt st (derived m.0 m.1))),
          λ d. (let v = form.whole x p q slot t lt st d in
              contains_from _ t (subst (λ z. Among z (map (tree_of w f) trees)) v.2 (among_map (tree_of w f) v.0 trees (among_from trees v.0 ((all.each v.0).1 v.1))))),
        );
      }
        where
          derived : (t : Tree) → Among t trees → Derives F (FlatEdges f (Held edges)) (slot_of x) p q t
          derived t m = (all.each t).0 (contains_from trees t m)
