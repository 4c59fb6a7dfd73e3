-- The lexemes of a text are in order of their symbols, which have names of their own.
use Rattle.std.proofs.Common.{arith, ◌≡◌, ℕ, zero, suc, ◌+◌, ◌≤◌, Bool, true, false, cond, List, [], ◌∷◌, map, Some, Contains, refl, sym, ◌∙◌, subst}
use Rattle.std.specs.Prelude.{filter, not, slice_get}
use Rattle.std.specs.List.{AllByRecursion}
use Rattle.std.specs.List.Sorted.{IsStrictlySortedBy}
use Rattle.std.specs.declared.cmp.Ordering.TheVariants.{Less}
use Rattle.std.specs.Ordering.{nat_cmp}
use Rattle.std.specs.Cmp.{nat_cmp_is}
use Rattle.std.proofs.lemmas.Simd.{map-map}
use Rattle.finite_sets.proofs.Lists.{among_get, get_item, get_left, get_mapped, got_at}
use Rattle.finite_sets.proofs.Members.{among_from}
use Rattle.language_model.specs.Description.{Statement}
use Rattle.language_model.specs.Building.{Built, LexemeRow, built_of, is_one_of, symbols_g1, lexemes, lexeme_row, left_names, discarded, start_texts, place_in}
use Rattle.language_model.specs.Texts.{IsBuilt}
use Rattle.dsl_build.specs.Texts.{AllNew}
use Rattle.dsl_build.proofs.Differing.{differ, symbols_new, starts_new}
use Rattle.prepared_grammars.specs.Prepared.{AreInOrder}
use Rattle.dsl_build.proofs.Terminals.{place_at}

-- ---- places of names

-- ---- those of the names that are left over a filter ascend

abbrev From : ℕ → List ℕ → Type 0
From k = AllByRecursion (λ x. k ≤ x)

weaker : (k m : ℕ) (xs : List ℕ) → k ≤ m → From m xs → From k xs
weaker k m [] le h = tt
weaker k m (x ∷ xs) le h = (omega (arith, le, h.0), weaker k m xs le h.1)

above : (k : ℕ) (xs : List ℕ) → From (suc k) xs → AllByRecursion (λ z. nat_cmp k z ≡ Less) xs
above k [] h = tt
above k (x ∷ xs) h = (sym (nat_cmp_is k x Less (omega (arith, h.0))), above k xs h.1)

module _ (names : List (List ℕ)) (new : AllNew [] names) (p : List ℕ → Bool) (symbol : List ℕ → ℕ) (is : (t : List ℕ) → symbol t ≡ place_in names t) where
  ascending : (k : ℕ) (ys : List (List ℕ)) → ((j : ℕ) (t : List ℕ) → slice_get ys j ≡ Some t → slice_get names (k + j) ≡ Some t) →
      IsStrictlySortedBy nat_cmp (map symbol (filter p ys)) × From k (map symbol (filter p ys))
  unfolding IsStrictlySortedBy
  ascending k [] at = (tt, tt)
  ascending k (t ∷ ts) at = go (p t)
      (ascending (suc k) ts (λ j u e. subst (λ i. slice_get names i ≡ Some u) (let s : k + suc j ≡ suc k + j = omega arith in s) (at (suc j) u e)))
    where
      here : symbol t ≡ k
      here = is t ∙ place_at names k t new (subst (λ i. slice_get names i ≡ Some t) (let s : k + 0 ≡ k = omega arith in s) (at 0 t refl))

      go : (b : Bool) → IsStrictlySortedBy nat_cmp (map symbol (filter p ts)) × From (suc k) (map symbol (filter p ts)) →
          IsStrictlySortedBy nat_cmp (map symbol (cond b (t ∷ filter p ts) (filter p ts))) × From k (map symbol (cond b (t ∷ filter p ts) (filter p ts)))
      go false (s, h) = (s, weaker k (suc k) (map symbol (filter p ts)) (omega arith) h)
      go true (s, h) = (
        (subst (λ n. AllByRecursion (λ z. nat_cmp n z ≡ Less) (map symbol (filter p ts))) (sym here) (above k (map symbol (filter p ts)) h), s),
        (let e = here in omega (arith, e), weaker k (suc k) (map symbol (filter p ts)) (omega arith) h),
      )

-- a symbol of a lexeme is the place of its text
lexeme_text : (d : List Statement) (l : LexemeRow) → Contains (map (lexeme_row d) (lexemes d)) l → (t : List ℕ) × (slice_get (symbols_g1 d) l.symbol ≡ Some t)
lexeme_text d l c =
    let (k, got) = among_get (map (lexeme_row d) (lexemes d)) l (among_from (map (lexeme_row d) (lexemes d)) l c) in
    let (t, in_place, is) = get_mapped (lexeme_row d) (lexemes d) k l got in
    let m = get_item (lexemes d) k t in_place in
    let e = sym is in
    let held = among (λ u. not (is_one_of (left_names false d) u)) (symbols_g1 d) t m in
    (t, subst (λ (r : LexemeRow). slice_get (symbols_g1 d) r.symbol ≡ Some t) (sym e) (let (i, at) = held in subst (λ k. slice_get (symbols_g1 d) k ≡ Some t) (sym (place_at (symbols_g1 d) i t (symbols_new d) at)) at))
  where
    among : (p : List ℕ → Bool) (ys : List (List ℕ)) (t : List ℕ) → Contains (filter p ys) t → (i : ℕ) × (slice_get ys i ≡ Some t)
    among p ys t m = let (i, e) = among_get (filter p ys) t (among_from (filter p ys) t m) in go p ys t i e
      where
        go : (p : List ℕ → Bool) (ys : List (List ℕ)) (t : List ℕ) (i : ℕ) → slice_get (filter p ys) i ≡ Some t → (i : ℕ) × (slice_get ys i ≡ Some t)
        go p [] t i e = cc
        go p (y ∷ ys) t i e = by (p y) i e (λ i e. go p ys t i e)
          where
            by : (b : Bool) (i : ℕ) → slice_get (cond b (y ∷ filter p ys) (filter p ys)) i ≡ Some t → ((i : ℕ) → slice_get (filter p ys) i ≡ Some t → (i : ℕ) × (slice_get ys i ≡ Some t)) → (i : ℕ) × (slice_get (y ∷ ys) i ≡ Some t)
            by true zero e rest = (0, e)
            by true (suc i) e rest = let (j, f) = rest i e in (suc j, f)
            by false i e rest = let (j, f) = rest i e in (suc j, f)

built_order : (d : List Statement) → AreInOrder (built_of d)
built_order d = record {
  ascend = subst (IsStrictlySortedBy nat_cmp) (sym (map-map (λ (l : LexemeRow). l.symbol) (lexeme_row d) (lexemes d)))
      (ascending (symbols_g1 d) (symbols_new d) (λ t. not (is_one_of (left_names false d) t)) (λ t. (lexeme_row d t).symbol) (λ t. refl) 0 (symbols_g1 d)
      (λ j t e. subst (λ i. slice_get (symbols_g1 d) i ≡ Some t) (let s : j ≡ 0 + j = omega arith in s) e)).0;
  differ = λ l m c k same.
      let (t, at) = lexeme_text d l c in
      let (u, on) = lexeme_text d m k in
      let (lt, t_is) = got_at (symbols_g1 d) l.symbol t [] (sym at) in
      let (gt, u_is) = got_at (symbols_g1 d) m.symbol u [] (sym on) in
      let e : t ≡ u = sym t_is ∙ (same ∙ u_is) in
      differ [] (symbols_g1 d) l.symbol m.symbol t (symbols_new d) at (subst (λ x. slice_get (symbols_g1 d) m.symbol ≡ Some x) (sym e) on);
  places = λ k l e.
      let (t, at, is) = get_mapped (lexeme_row d) (lexemes d) k l e in
      subst (λ (r : LexemeRow). r.start ≡ k) is (place_at (start_texts d) k t (starts_new d) (get_left (lexemes d) (filter (λ u. not (is_one_of (lexemes d) u)) (discarded d)) k t at));
}

pub in_order : (b : Built) → IsBuilt b → AreInOrder b
in_order b (d, of) = subst AreInOrder (sym of.is) (built_order d)
