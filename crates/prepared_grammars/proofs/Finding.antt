-- Tables of what is looked for, made row by row.
use Rattle.std.proofs.Common.{arith, ◌≡◌, ◌≢◌, ◌↔◌, ◌⊎◌, inl, inr, ℕ, zero, suc, ◌+◌, ◌<◌, ◌≤◌, Bool, true, false, List, [], ◌∷◌, ◌++◌, length, map, take, get_or, Contains, Option, Some, None, slice_get, slice_set, replicate, refl, sym, ◌∙◌, ap, subst, length-set}
use Rattle.std.specs.Prelude.{IsTrue, IsFalse}
use Rattle.std.specs.List.Sorted.{IsStrictlySortedBy}
use Rattle.std.specs.Ordering.{nat_cmp}
use Rattle.std.proofs.lemmas.List.{take_more, take_all, get_or-map, length-map}
use Rattle.std.proofs.lemmas.List.Elements.{Contains-append_left, Contains-push, Contains-push_cases}
use Rattle.language_model.specs.Building.{LexemeRow}
use Rattle.dsl_build.specs.declared.built.LexemeRow.{LexemeRow as HeldRow}
use Rattle.dsl_build.specs.Tables.{row_of}
use Rattle.prepared_grammars.specs.Gathered.{Gathers}
use Rattle.prepared_grammars.specs.Lookups.{AreStarts, SetsIf, HasStart}
use Rattle.prepared_grammars.proofs.Gathering.{above}

module _ {A : Type 0} where
  got_set : (xs : List A) (k : ℕ) (x : A) (j : ℕ) (y : A) → slice_get (slice_set xs k x) j ≡ Some y → ((j ≢ k) × (slice_get xs j ≡ Some y)) ⊎ ((j ≡ k) × (y ≡ x))
  got_set [] k x j y e = absurd (cc)
  got_set (z ∷ zs) zero x zero y e = inr (refl, cc)
  got_set (z ∷ zs) zero x (suc j) y e = inl ((λ n. absurd (omega (arith, n))), e)
  got_set (z ∷ zs) (suc k) x zero y e = inl ((λ n. absurd (omega (arith, n))), e)
  got_set (z ∷ zs) (suc k) x (suc j) y e = elim (got_set zs k x j y e) [ inl (n, o) ↦ inl ((λ m. n (omega (arith, m))), o) | inr (n, o) ↦ inr (ap suc n, o) ]

  set_here : (xs : List A) (k : ℕ) (x : A) → k < length xs → slice_get (slice_set xs k x) k ≡ Some x
  set_here [] k x lt = absurd (omega arith)
  set_here (z ∷ zs) zero x lt = refl
  set_here (z ∷ zs) (suc k) x lt = set_here zs k x (omega arith)

  set_other : (xs : List A) (k : ℕ) (x : A) (j : ℕ) → j ≢ k → slice_get (slice_set xs k x) j ≡ slice_get xs j
  set_other [] k x j n = refl
  set_other (z ∷ zs) zero x zero n = absurd (n refl)
  set_other (z ∷ zs) zero x (suc j) n = refl
  set_other (z ∷ zs) (suc k) x zero n = refl
  set_other (z ∷ zs) (suc k) x (suc j) n = set_other zs k x j (λ e. n (ap suc e))

none_there : (n s k : ℕ) → ¬ HasStart (replicate n None) s k
none_there zero s k e = absurd (cc)
none_there (suc n) zero k e = absurd (cc)
none_there (suc n) (suc s) k e = none_there n s k e

pub starts_none : (n : ℕ) → AreStarts [] (replicate n None)
starts_none n = record { there = λ l (k, lt, e) t. absurd (omega (arith, lt)); only = λ s k h. absurd (none_there n s k h) }

pub sets_long : {A : Type 0} (P : Type 0) (k : ℕ) (x : A) (old new : List A) → SetsIf P k x old new → length new ≡ length old
sets_long P k x old new (inl (p, e)) = ap length e ∙ length-set old k x
sets_long P k x old new (inr (n, e)) = ap length e

module _ (rows : List LexemeRow) (ascend : IsStrictlySortedBy nat_cmp (map (λ (l : LexemeRow). l.symbol) rows)) (i : ℕ) (l : LexemeRow) (lt : i < length rows) (is : l ≡ get_or rows i l)
    (old : List (Option ℕ)) (here : l.symbol < length old) (are : AreStarts (take i rows) old) where
  with_last : AreStarts (take i rows ++ l ∷ []) (slice_set old l.symbol (Some l.start))
  with_last = record {
    there = λ m c t. elim (Contains-push_cases (take i rows) l m c) [
      | inl o ↦ (let less = above (λ (x : LexemeRow). IsTrue x.latm) (λ (x : LexemeRow). x.symbol) rows ascend i l lt is m o in set_other old l.symbol (Some l.start) m.symbol (λ e. absurd (omega (arith, e, less))) ∙ are.there m o t)
      | inr same ↦ subst (λ (x : LexemeRow). HasStart (slice_set old l.symbol (Some l.start)) x.symbol x.start) same (set_here old l.symbol (Some l.start) here)
    ];
    only = λ s k h. elim (got_set old l.symbol (Some l.start) s (Some k) h) [
      | inl (n, o) ↦ (let (m, c, a, b) = are.only s k o in (m, Contains-append_left (take i rows) (l ∷ []) m c, a, b))
      | inr (e, f) ↦ (l, Contains-push (take i rows) l, sym e, start_is k f)
    ];
  }
    where
      start_is : (k : ℕ) → Some k ≡ Some l.start → l.start ≡ k
      start_is k e = cc

  without_last : (IsTrue l.latm → ⊥) → AreStarts (take i rows ++ l ∷ []) old
  without_last not = record {
    there = λ m c t. elim (Contains-push_cases (take i rows) l m c) [ inl o ↦ are.there m o t | inr same ↦ absurd (not (subst (λ (x : LexemeRow). IsTrue x.latm) (sym same) t)) ];
    only = λ s k h. (let (m, c, a, b) = are.only s k h in (m, Contains-append_left (take i rows) (l ∷ []) m c, a, b));
  }

  pub starts_more : (new : List (Option ℕ)) → SetsIf (IsTrue l.latm) l.symbol (Some l.start) old new → AreStarts (take (i + 1) rows) new
  starts_more new (inl (t, e)) = subst (λ rs. AreStarts rs new) (ap (λ x. take i rows ++ x ∷ []) is ∙ sym (take_more rows i l lt)) (subst (AreStarts (take i rows ++ l ∷ [])) (sym e) with_last)
  starts_more new (inr (n, e)) = subst (λ rs. AreStarts rs new) (ap (λ x. take i rows ++ x ∷ []) is ∙ sym (take_more rows i l lt)) (subst (AreStarts (take i rows ++ l ∷ [])) (sym e) (without_last n))

pub starts_all : (rows : List LexemeRow) (n : ℕ) (starts : List (Option ℕ)) → length rows ≤ n → AreStarts (take n rows) starts → AreStarts rows starts
starts_all rows n starts le are = subst (λ rs. AreStarts rs starts) (take_all n rows le) are

-- a row as its definition has it, at its place
pub row_there : (rows : List HeldRow) (i : ℕ) (row : HeldRow) → i < length rows → row ≡ get_or rows i row → (i < length (map row_of rows)) × (row_of row ≡ get_or (map row_of rows) i (row_of row))
row_there rows i row lt is = (let l = length-map rows row_of in omega (arith, l, lt), ap row_of is ∙ sym (get_or-map row_of rows i row (row_of row) lt))

decided : (b : Bool) → IsTrue b ⊎ IsFalse b
decided true = inl refl
decided false = inr refl

-- the lexemes that are always looked for, and those that are expected
pub gathers_found : (rows : List LexemeRow) (always : List ℕ) (starts : List (Option ℕ)) (E : ℕ → Type 0) (terminals found : List ℕ) → Gathers (λ (l : LexemeRow). IsFalse l.latm) (λ (l : LexemeRow). l.start) rows always →
    AreStarts rows starts → ((t : ℕ) → Contains terminals t ↔ E t) → ((k : ℕ) → Contains found k ↔ (Contains always k ⊎ ((s : ℕ) × Contains terminals s × HasStart starts s k))) →
    Gathers (λ (l : LexemeRow). IsFalse l.latm ⊎ E l.symbol) (λ (l : LexemeRow). l.start) rows found
gathers_found rows always starts E terminals found g are exact adds k = (there, back)
  where
    there : Contains found k → (l : LexemeRow) × Contains rows l × (IsFalse l.latm ⊎ E l.symbol) × (l.start ≡ k)
    there h = elim ((adds k).0 h) [
      | inl o ↦ (let (l, m, f, is) = (g k).0 o in (l, m, inl f, is))
      | inr (s, t, has) ↦ (let (l, m, same, is) = are.only s k has in (l, m, inr (subst E (sym same) ((exact s).0 t)), is))
    ]

    by_latm : (l : LexemeRow) → Contains rows l → E l.symbol → l.start ≡ k → IsTrue l.latm ⊎ IsFalse l.latm → Contains found k
    by_latm l m e is (inl t) = (adds k).1 (inr (l.symbol, (exact l.symbol).1 e, subst (HasStart starts l.symbol) is (are.there l m t)))
    by_latm l m e is (inr f) = (adds k).1 (inl ((g k).1 (l, m, f, is)))

    back : (l : LexemeRow) × Contains rows l × (IsFalse l.latm ⊎ E l.symbol) × (l.start ≡ k) → Contains found k
    back (l, m, inl f, is) = (adds k).1 (inl ((g k).1 (l, m, f, is)))
    back (l, m, inr e, is) = by_latm l m e is (decided l.latm)

-- one symbol's start more, if it has one
pub start_added : (starts : List (Option ℕ)) (s k : ℕ) (old new : List ℕ) → HasStart starts s k → new ≡ old ++ k ∷ [] → (j : ℕ) → Contains new j ↔ (Contains old j ⊎ HasStart starts s j)
start_added starts s k old new has e j = (
  λ h. elim (Contains-push_cases old k j (subst (λ l. Contains l j) e h)) [ inl o ↦ inl o | inr same ↦ inr (subst (HasStart starts s) same has) ],
  λ h. subst (λ l. Contains l j) (sym e) (elim h [ inl o ↦ Contains-append_left old (k ∷ []) j o | inr other ↦ subst (Contains (old ++ k ∷ [])) (one k j (sym has ∙ other)) (Contains-push old k) ]),
)
  where
    one : (a b : ℕ) → Some (Some a) ≡ Some (Some b) → a ≡ b
    one a b e = cc

pub start_missing : (starts : List (Option ℕ)) (s : ℕ) (found : List ℕ) → ((k : ℕ) → ¬ HasStart starts s k) → (j : ℕ) → Contains found j ↔ (Contains found j ⊎ HasStart starts s j)
start_missing starts s found none j = (inl, λ h. elim h [ inl o ↦ o | inr has ↦ absurd (none j has) ])

-- the starts of the first symbols
abbrev pub AddsStarts : List (Option ℕ) → (symbols old new : List ℕ) → Type 0
AddsStarts starts symbols old new = (k : ℕ) → Contains new k ↔ (Contains old k ⊎ ((s : ℕ) × Contains symbols s × HasStart starts s k))

pub adds_none : (starts : List (Option ℕ)) (found : List ℕ) → AddsStarts starts [] found found
adds_none starts found k = (inl, λ h. elim h [ inl o ↦ o | inr (s, (i, lt, e), has) ↦ absurd (omega (arith, lt)) ])

pub adds_more : (starts : List (Option ℕ)) (symbols : List ℕ) (i s : ℕ) (old mid new : List ℕ) → i < length symbols → s ≡ get_or symbols i s → AddsStarts starts (take i symbols) old mid →
    ((k : ℕ) → Contains new k ↔ (Contains mid k ⊎ HasStart starts s k)) → AddsStarts starts (take (i + 1) symbols) old new
adds_more starts symbols i s old mid new lt is adds more = subst (λ ss. AddsStarts starts ss old new) (ap (λ x. take i symbols ++ x ∷ []) is ∙ sym (take_more symbols i s lt)) (λ k. (
  λ h. elim ((more k).0 h) [
    | inl o ↦ elim ((adds k).0 o) [ inl a ↦ inl a | inr (r, m, has) ↦ inr (r, Contains-append_left (take i symbols) (s ∷ []) r m, has) ]
    | inr has ↦ inr (s, Contains-push (take i symbols) s, has)
  ],
  λ h. (more k).1 (elim h [
    | inl o ↦ inl ((adds k).1 (inl o))
    | inr (r, m, has) ↦ elim (Contains-push_cases (take i symbols) s r m) [ inl a ↦ inl ((adds k).1 (inr (r, a, has))) | inr same ↦ inr (subst (λ z. HasStart starts z k) (sym same) has) ]
  ]),
))

pub adds_all : (starts : List (Option ℕ)) (symbols : List ℕ) (n : ℕ) (old new : List ℕ) → length symbols ≤ n → AddsStarts starts (take n symbols) old new → AddsStarts starts symbols old new
adds_all starts symbols n old new le adds = subst (λ ss. AddsStarts starts ss old new) (take_all n symbols le) adds
