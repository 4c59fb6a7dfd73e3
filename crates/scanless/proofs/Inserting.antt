-- A number that is put in its place in a list of ascending numbers.
use Rattle.std.proofs.Common.{arith, ◌≡◌, ◌↔◌, ◌⊎◌, inl, inr, ℕ, zero, suc, ◌<◌, ◌≤◌, List, [], ◌∷◌, length, get_or, Contains, Ok, Err, sym, subst}
use Rattle.std.specs.List.{AllByRecursion, insert}
use Rattle.std.specs.List.Sorted.{IsStrictlySortedBy, IsBinarySearchResult}
use Rattle.std.specs.declared.cmp.Ordering.TheVariants.{Less}
use Rattle.std.specs.Ordering.{nat_cmp}
use Rattle.std.proofs.lemmas.Bool.{cases_lt}
use Rattle.std.proofs.lemmas.List.Elements.{Contains-get_or}
use Rattle.std.proofs.lemmas.List.Sorted.{searched, Contains-permutation, IsPermutation-insert, IsPermutation-sym}
use Rattle.std.proofs.lemmas.Map.Keys.{below_from_sorted}
use Rattle.finite_sets.proofs.Clauses.{nat_cmp-less}

all_above : (xs : List ℕ) (y : ℕ) → ((k : ℕ) → k < length xs → y < get_or xs k 0) → AllByRecursion (λ z. nat_cmp y z ≡ Less) xs
all_above [] y high = tt
all_above (x ∷ xs) y high = (nat_cmp-less y x (high 0 (omega arith)), all_above xs y (λ k lt. high (suc k) (omega (arith, lt))))

all_with : (x y : ℕ) (xs : List ℕ) (i : ℕ) → nat_cmp x y ≡ Less → AllByRecursion (λ z. nat_cmp x z ≡ Less) xs → AllByRecursion (λ z. nat_cmp x z ≡ Less) (insert xs i y)
all_with x y [] zero e all = (e, tt)
all_with x y [] (suc i) e all = (e, tt)
all_with x y (z ∷ zs) zero e all = (e, all)
all_with x y (z ∷ zs) (suc i) e all = (all.0, all_with x y zs i e all.1)

sorted_insert : (xs : List ℕ) (i y : ℕ) → IsStrictlySortedBy nat_cmp xs → ((k : ℕ) → k < i → get_or xs k 0 < y) → ((k : ℕ) → i ≤ k → k < length xs → y < get_or xs k 0) → IsStrictlySortedBy nat_cmp (insert xs i y)
unfolding IsStrictlySortedBy
sorted_insert [] zero y s low high = (tt, tt)
sorted_insert [] (suc i) y s low high = (tt, tt)
sorted_insert (x ∷ xs) zero y s low high = (all_above (x ∷ xs) y (λ k lt. high k (omega arith) lt), s)
sorted_insert (x ∷ xs) (suc i) y s low high =
    (all_with x y xs i (nat_cmp-less x y (low 0 (omega arith))) s.0, sorted_insert xs i y s.1 (λ k lt. low (suc k) (omega (arith, lt))) (λ k le lt. high (suc k) (omega (arith, le)) (omega (arith, lt))))

-- ---- the search for the place

rises : (xs : List ℕ) → IsStrictlySortedBy nat_cmp xs → (i j : ℕ) → i ≤ j → j < length xs → get_or xs i 0 ≤ get_or xs j 0
rises xs s i j le lt = elim (cases_lt i j) [
  | inl l ↦ (let b = below_from_sorted xs i j 0 s l lt in omega (arith, b))
  | inr ge ↦ (let e : i ≡ j = omega (arith, le, ge) in subst (λ k. get_or xs i 0 ≤ get_or xs k 0) e (omega arith))
]

cons_cases : (x s : ℕ) (xs : List ℕ) → Contains (x ∷ xs) s → Contains xs s ⊎ (s ≡ x)
cons_cases x s xs (zero, lt, e) = inr (sym e)
cons_cases x s xs (suc k, lt, e) = inl (k, omega (arith, lt), e)

cons_back : (x s : ℕ) (xs : List ℕ) → Contains xs s ⊎ (s ≡ x) → Contains (x ∷ xs) s
cons_back x s xs (inl (k, lt, e)) = (suc k, omega (arith, lt), e)
cons_back x s xs (inr e) = (0, omega arith, sym e)

module _ (xs : List ℕ) (x i : ℕ) (sorted : IsStrictlySortedBy nat_cmp xs) where
  pub is_there : IsBinarySearchResult (λ y. nat_cmp y x) xs (Ok i) → (s : ℕ) → Contains xs s ↔ (Contains xs s ⊎ (s ≡ x))
  is_there found s =
      let (lt, e) = searched xs x (Ok i) found (rises xs sorted) in
      (λ c. inl c, λ o. elim o [ inl c ↦ c | inr same ↦ subst (Contains xs) (sym same) (subst (Contains xs) e (Contains-get_or xs i 0 lt)) ])

  module _ (place : IsBinarySearchResult (λ y. nat_cmp y x) xs (Err i)) where
    pub put_sorted : IsStrictlySortedBy nat_cmp (insert xs i x)
    put_sorted = let (le, low, high) = searched xs x (Err i) place (rises xs sorted) in sorted_insert xs i x sorted low high

    pub put_exact : (s : ℕ) → Contains (insert xs i x) s ↔ (Contains xs s ⊎ (s ≡ x))
    put_exact s =
        let p = IsPermutation-insert xs i x in
        (λ c. cons_cases x s xs (Contains-permutation (insert xs i x) (x ∷ xs) s (IsPermutation-sym (x ∷ xs) (insert xs i x) p) c), λ o. Contains-permutation (x ∷ xs) (insert xs i x) s p (cons_back x s xs o))

-- a number that stands alone
module _ (x : ℕ) (xs : List ℕ) (is : xs ≡ x ∷ []) where
  pub one_sorted : IsStrictlySortedBy nat_cmp xs
  unfolding IsStrictlySortedBy
  one_sorted = subst (IsStrictlySortedBy nat_cmp) (sym is) (tt, tt)

  pub one_exact : (y : ℕ) → Contains xs y ↔ (Contains [] y ⊎ (y ≡ x))
  one_exact y = subst (λ l. Contains l y ↔ (Contains [] y ⊎ (y ≡ x))) (sym is) (there, back)
    where
      there : Contains (x ∷ []) y → Contains [] y ⊎ (y ≡ x)
      there (zero, lt, e) = inr (sym e)
      there (suc k, lt, e) = absurd (omega arith)

      back : Contains [] y ⊎ (y ≡ x) → Contains (x ∷ []) y
      back (inl (k, lt, e)) = absurd (omega arith)
      back (inr e) = (0, omega arith, sym e)
