-- Rows of rules by their left sides, and what is known of a grammar's rules.
use Rattle.std.proofs.Common.{◌≡◌, ◌≢◌, ℕ, zero, suc, ◌+◌, ◌<◌, Bool, true, false, cond, List, [], ◌∷◌, ◌++◌, length, get_or, slice_set, Result, Ok, Err, is_ok, ◌⊎◌, inl, inr, refl, sym, ap, ◌∙◌, subst, arith, length-set, if◌then◌else◌}
use Rattle.std.specs.Prelude.{◌==◌, filter}
use Rattle.std.specs.Result.{OnOk}
use Rattle.std.specs.declared.vec.Vec.{Vec}
use Rattle.std.specs.declared.alloc.Global.{Global}
use Rattle.std.proofs.lemmas.Bool.{cases_eq, ne_eqb, eq-eqb}
use Rattle.std.proofs.lemmas.List.{get_or-set_same, get_or-set_other, get_or-map, map-set, length-map, append-nil}
use Rattle.std.proofs.lemmas.List.Elements.{filter-append}
use Rattle.grammar_model.specs.Grammar.{Grammar, rule_at, lhs_of}
use Rattle.grammar_model.specs.Simple.{numbers}
use Rattle.flat_rules.specs.Tables.{rows_of, row_at, HasAdded}

-- ---- rows

row_pushed : (rows : List (List ℕ)) (s i : ℕ) → s < length rows → HasAdded rows (slice_set rows s (row_at rows s ++ i ∷ [])) s i
row_pushed rows s i lt = record {
  same_length = length-set rows s (row_at rows s ++ i ∷ []);
  here = get_or-set_same rows s (row_at rows s ++ i ∷ []) [] lt;
  others = λ t ne. get_or-set_other rows s t (row_at rows s ++ i ∷ []) [] ne;
}

pub rows_length : (rows : List (Vec ℕ Global)) → length (rows_of rows) ≡ length rows
rows_length rows = length-map rows (λ (v : Vec ℕ Global). v.items)

pub row_is : (rows : List (Vec ℕ Global)) (s : ℕ) (v : Vec ℕ Global) → s < length rows → v ≡ get_or rows s v → v.items ≡ row_at (rows_of rows) s
row_is rows s v lt is = ap (λ v. v.items) is ∙ sym (get_or-map (λ (v : Vec ℕ Global). v.items) rows s v [] lt)

vec_pushed : (rows : List (Vec ℕ Global)) (s i : ℕ) (old new : Vec ℕ Global) → s < length rows → old ≡ get_or rows s old → new.items ≡ old.items ++ i ∷ [] → HasAdded (rows_of rows) (rows_of (slice_set rows s new)) s i
vec_pushed rows s i old new lt is e =
    let row : old.items ≡ row_at (rows_of rows) s = ap (λ v. v.items) is ∙ sym (get_or-map (λ (v : Vec ℕ Global). v.items) rows s old [] lt) in
    let set_is : rows_of (slice_set rows s new) ≡ slice_set (rows_of rows) s (row_at (rows_of rows) s ++ i ∷ []) =
    map-set (λ (v : Vec ℕ Global). v.items) rows s new ∙ ap (λ l. slice_set (rows_of rows) s l) (e ∙ ap (λ l. l ++ i ∷ []) row) in
    subst (λ n. HasAdded (rows_of rows) n s i) (sym set_is) (row_pushed (rows_of rows) s i (let l = rows_length rows in omega arith))

pub pushed_row : {T E : Type 0} (rows : List (Vec ℕ Global)) (s i : ℕ) (old new : Vec ℕ Global) (r : Result T E) → s < length rows → old ≡ get_or rows s old →
    new.items ≡ (if is_ok r then old.items ++ i ∷ [] else old.items) → OnOk r (HasAdded (rows_of rows) (rows_of (slice_set rows s new)) s i)
pushed_row rows s i old new (Ok t) lt is e = vec_pushed rows s i old new lt is e
pushed_row rows s i old new (Err t) lt is e = tt

pub empty_more : (rows : List (Vec ℕ Global)) (v : Vec ℕ Global) → v.items ≡ [] → ((s : ℕ) → row_at (rows_of rows) s ≡ []) → (s : ℕ) → row_at (rows_of (rows ++ v ∷ [])) s ≡ []
empty_more [] v e h zero = e
empty_more [] v e h (suc s) = refl
empty_more (r ∷ rows) v e h zero = h zero
empty_more (r ∷ rows) v e h (suc s) = empty_more rows v e (λ t. h (suc t)) s

-- ---- the rules below a number

abbrev pub rules_to : Grammar → ℕ → ℕ → List ℕ
rules_to w n s = filter (λ i. lhs_of (rule_at w i) == s) (numbers n)

pub numbers_next : (n : ℕ) → numbers (n + 1) ≡ numbers n ++ n ∷ []
numbers_next n = let e : n + 1 ≡ suc n = omega arith in ap numbers e

rules_next : (w : Grammar) (n s : ℕ) (b : Bool) → (lhs_of (rule_at w n) == s) ≡ b → rules_to w (n + 1) s ≡ rules_to w n s ++ cond b (n ∷ []) []
rules_next w n s b e =
    ap (filter (λ i. lhs_of (rule_at w i) == s)) (numbers_next n) ∙ filter-append (λ i. lhs_of (rule_at w i) == s) (numbers n) (n ∷ []) ∙ ap (λ c. rules_to w n s ++ cond c (n ∷ []) []) e

pub lefts_more : (w : Grammar) (old new : List (List ℕ)) (n s : ℕ) → s ≡ lhs_of (rule_at w n) → ((t : ℕ) → row_at old t ≡ rules_to w n t) → HasAdded old new s n → (t : ℕ) → row_at new t ≡ rules_to w (n + 1) t
lefts_more w old new n s is h a t = go (cases_eq t s)
  where
    go : (t ≡ s) ⊎ (t ≢ s) → row_at new t ≡ rules_to w (n + 1) t
    go (inl e) =
        ap (row_at new) e ∙ a.here ∙ ap (λ l. l ++ n ∷ []) (h s) ∙ sym (rules_next w n s true (eq-eqb _ s (sym is))) ∙ ap (rules_to w (n + 1)) (sym e)
    go (inr ne) =
        a.others t ne ∙ h t ∙ sym (append-nil (rules_to w n t)) ∙ sym (rules_next w n t false (ne_eqb _ t (λ e. ne (sym (is ∙ e)))))
