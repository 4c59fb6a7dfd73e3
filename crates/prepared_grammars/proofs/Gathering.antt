-- Lists that gather what rows have, row after row.
use Rattle.std.proofs.Common.{arith, ◌≡◌, ◌↔◌, ◌⊎◌, inl, inr, ℕ, ◌+◌, ◌<◌, ◌≤◌, List, [], ◌∷◌, ◌++◌, length, map, take, get_or, Contains, sym, ◌∙◌, ap, subst}
use Rattle.std.proofs.lemmas.List.{take_more, take_all, get_or-take, get_or-map, length-take-le, length-map}
use Rattle.std.proofs.lemmas.List.Elements.{Contains-append_left, Contains-push, Contains-push_cases}
use Rattle.std.specs.List.Sorted.{IsStrictlySortedBy}
use Rattle.std.specs.Ordering.{nat_cmp}
use Rattle.std.proofs.lemmas.Map.Keys.{below_from_sorted}
use Rattle.prepared_grammars.specs.Gathered.{AddsIf, Gathers}

-- ---- one element more

module _ {A B : Type 0} (P : A → Type 0) (f : A → B) where
  pub gathers_none : Gathers P f [] []
  gathers_none y = ((λ (k, lt, e). absurd (omega (arith, lt))), (λ (r, (k, lt, e), p, is). absurd (omega (arith, lt))))

  gathers_push : (rows : List A) (row : A) (xs ys : List B) → Gathers P f rows xs → AddsIf (P row) (f row) xs ys → Gathers P f (rows ++ row ∷ []) ys
  gathers_push rows row xs ys g (inl (p, e)) y = (
    λ c. elim (Contains-push_cases xs (f row) y (subst (λ l. Contains l y) e c)) [
      | inl o ↦ (let (r, m, q, is) = (g y).0 o in (r, Contains-append_left rows (row ∷ []) r m, q, is))
      | inr same ↦ (row, Contains-push rows row, p, same)
    ],
    λ (r, m, q, is). subst (λ l. Contains l y) (sym e) (elim (Contains-push_cases rows row r m) [
      | inl o ↦ Contains-append_left xs (f row ∷ []) y ((g y).1 (r, o, q, is))
      | inr same ↦ subst (Contains (xs ++ f row ∷ [])) (ap f same ∙ is) (Contains-push xs (f row))
    ]),
  )
  gathers_push rows row xs ys g (inr (not, e)) y = (
    λ c. (let (r, m, q, is) = (g y).0 (subst (λ l. Contains l y) e c) in (r, Contains-append_left rows (row ∷ []) r m, q, is)),
    λ (r, m, q, is). elim (Contains-push_cases rows row r m) [
      | inl o ↦ subst (λ l. Contains l y) (sym e) ((g y).1 (r, o, q, is))
      | inr same ↦ absurd (not (subst P (sym same) q))
    ],
  )

  pub gathers_more : (rows : List A) (i : ℕ) (row : A) (xs ys : List B) → i < length rows → row ≡ get_or rows i row → Gathers P f (take i rows) xs → AddsIf (P row) (f row) xs ys → Gathers P f (take (i + 1) rows) ys
  gathers_more rows i row xs ys lt is g adds =
      subst (λ rs. Gathers P f rs ys) (sym (take_more rows i row lt)) (subst (λ r. Gathers P f (take i rows ++ r ∷ []) ys) is (gathers_push (take i rows) row xs ys g adds))

  pub gathers_all : (rows : List A) (n : ℕ) (xs : List B) → length rows ≤ n → Gathers P f (take n rows) xs → Gathers P f rows xs
  gathers_all rows n xs le g = subst (λ rs. Gathers P f rs xs) (take_all n rows le) g

-- ---- the same rows, of which others are meant

module _ {A B : Type 0} (f : A → B) (rows : List A) (P : A → Type 0) where
  pub gathers_never : ((r : A) → P r → ⊥) → Gathers P f rows []
  gathers_never never y = ((λ (k, lt, e). absurd (omega (arith, lt))), (λ (r, m, p, is). absurd (never r p)))

  module _ (Q : A → Type 0) (xs : List B) (g : Gathers P f rows xs) (on : (r : A) → Contains rows r → P r → Q r) where
    pub gathers_same : ((r : A) → Contains rows r → Q r → P r) → Gathers Q f rows xs
    gathers_same back y = ((λ c. (let (r, m, p, is) = (g y).0 c in (r, m, on r m p, is))), (λ (r, m, q, is). (g y).1 (r, m, back r m q, is)))

    pub gathers_with : (row : A) (ys : List B) → Contains rows row → Q row → ((r : A) → Contains rows r → Q r → P r ⊎ (r ≡ row)) → ((y : B) → Contains ys y ↔ (Contains xs y ⊎ (y ≡ f row))) → Gathers Q f rows ys
    gathers_with row ys there q back same y = (
      (λ c. elim ((same y).0 c) [ inl o ↦ (let (r, m, p, is) = (g y).0 o in (r, m, on r m p, is)) | inr e ↦ (row, there, q, sym e) ]),
      (λ (r, m, p, is). (same y).1 (elim (back r m p) [ inl o ↦ inl ((g y).1 (r, m, o, is)) | inr e ↦ inr (sym is ∙ ap f e) ])),
    )

-- ---- rows in ascending order

module _ {A : Type 0} (P : A → Type 0) (f : A → ℕ) (rows : List A) (ascend : IsStrictlySortedBy nat_cmp (map f rows)) (i : ℕ) (row : A) (lt : i < length rows) (is : row ≡ get_or rows i row) where
  pub above : (r : A) → Contains (take i rows) r → f r < f row
  above r (k, k_lt, e) =
      let short = length-take-le i rows (omega (arith, lt)) in
      let k_lt_i : k < i = omega (arith, k_lt, short) in
      let r_is : get_or rows k r ≡ r = sym (get_or-take i rows k r k_lt_i) ∙ e in
      let rises = below_from_sorted (map f rows) k i 0 ascend k_lt_i (let l = length-map rows f in omega (arith, l, lt)) in
      let left : get_or (map f rows) k 0 ≡ f r = get_or-map f rows k r 0 (omega (arith, k_lt_i, lt)) ∙ ap f r_is in
      let right : get_or (map f rows) i 0 ≡ f row = get_or-map f rows i row 0 lt ∙ ap f (sym is) in
      omega (arith, rises, left, right)
