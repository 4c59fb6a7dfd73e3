-- Lists that are mapped, and numbers that rise.
use Rattle.std.proofs.Common.{◌≡◌, inl, inr, ℕ, zero, suc, ◌<◌, ◌≤◌, ◌++◌, List, [], ◌∷◌, length, map, get_or, Some, slice_get, Contains, refl, ◌∙◌, ap, subst, arith}
use Rattle.std.specs.Prelude.{slice_index_or, Result, Ok, Err, MatchResult}
use Rattle.std.specs.Ordering.{nat_cmp}
use Rattle.std.specs.List.Sorted.{IsBinarySearchResult}
use Rattle.std.proofs.lemmas.Bool.{cases_lt}
use Rattle.std.proofs.lemmas.List.{get_or-map}
use Rattle.std.proofs.lemmas.Option.{slice_get-get_or}
use Rattle.std.proofs.lemmas.List.Sorted.{searched}
use Rattle.kernels.specs.Slots.{Rises}

module _ {A B : Type 0} (f : A → B) where
  pub map_length : (xs : List A) → length (map f xs) ≡ length xs
  map_length [] = refl
  map_length (x ∷ xs) = ap suc (map_length xs)

  pub map_has : (xs : List A) (x : A) → Contains xs x → Contains (map f xs) (f x)
  map_has xs x (k, lt, e) = (k, (let l = map_length xs in omega arith), get_or-map f xs k x (f x) lt ∙ ap f e)

  pub map_from : (xs : List A) (y : B) → Contains (map f xs) y → (x : A) × Contains xs x × (f x ≡ y)
  map_from [] y (k, lt, e) = absurd (omega arith)
  map_from (x ∷ xs) y (zero, lt, e) = (x, (0, omega arith, refl), e)
  map_from (x ∷ xs) y (suc k, lt, e) = let (z, (j, b, h), same) = map_from xs y (k, omega arith, e) in (z, (suc j, omega arith, h), same)

  pub map_more : (xs ys : List A) → map f (xs ++ ys) ≡ map f xs ++ map f ys
  map_more [] ys = refl
  map_more (x ∷ xs) ys = ap (λ l. f x ∷ l) (map_more xs ys)

pub index_any : {A : Type 0} (xs : List A) (k : ℕ) (d e : A) → k < length xs → slice_index_or xs k d ≡ slice_index_or xs k e
index_any [] k d e lt = absurd (omega arith)
index_any (x ∷ xs) zero d e lt = refl
index_any (x ∷ xs) (suc k) d e lt = index_any xs k d e (omega arith)

-- numbers that rise
module _ (row : List ℕ) (rises : Rises row) where
  pub in_order : (i j : ℕ) → i ≤ j → j < length row → get_or row i 0 ≤ get_or row j 0
  in_order i j le lt = elim (cases_lt i j) [
    | inl l ↦ let r = rises i j 0 l lt in omega arith
    | inr l ↦ let same : i ≡ j = omega arith in let e = ap (λ k. get_or row k 0) same in omega arith
  ]

  pub at_least : (k : ℕ) → k < length row → k ≤ get_or row k 0
  at_least zero lt = omega arith
  at_least (suc k) lt = let before = at_least k (omega arith) in let r = rises k (suc k) 0 (omega arith) lt in omega arith

  pub search_at : (n : ℕ) (r : Result ℕ ℕ) → IsBinarySearchResult (λ y. nat_cmp y n) row r → MatchResult r (λ i. (i < length row) × (get_or row i 0 ≡ n)) (λ i. ¬ Contains row n)
  search_at n r h = go r (searched row n r h in_order)
    where
      go : (r : Result ℕ ℕ) → MatchResult r (λ i. (i < length row) × (get_or row i 0 ≡ n)) (λ i. (i ≤ length row) × ((k : ℕ) → k < i → get_or row k 0 < n) × ((k : ℕ) → i ≤ k → k < length row → n < get_or row k 0)) →
          MatchResult r (λ i. (i < length row) × (get_or row i 0 ≡ n)) (λ i. ¬ Contains row n)
      go (Ok i) found = found
      go (Err i) (le, below, above) = λ (k, lt, e).
          let same : get_or row k 0 ≡ n = index_any row k 0 n lt ∙ e in
          elim (cases_lt k i) [ inl l ↦ let b = below k l in omega arith | inr l ↦ let a = above k l lt in omega arith ]

  pub found_slot : (n slot : ℕ) (r : Result ℕ ℕ) → IsBinarySearchResult (λ y. nat_cmp y n) row r → r ≡ Ok slot → slice_get row slot ≡ Some n
  found_slot n slot r h e = let (lt, same) = subst (λ (r : Result ℕ ℕ). MatchResult r (λ i. (i < length row) × (get_or row i 0 ≡ n)) (λ i. ¬ Contains row n)) e (search_at n r h) in slice_get-get_or row slot 0 lt ∙ ap Some same

  pub no_slot : (n p : ℕ) (r : Result ℕ ℕ) → IsBinarySearchResult (λ y. nat_cmp y n) row r → r ≡ Err p → ¬ Contains row n
  no_slot n p r h e = subst (λ (r : Result ℕ ℕ). MatchResult r (λ i. (i < length row) × (get_or row i 0 ≡ n)) (λ i. ¬ Contains row n)) e (search_at n r h)
