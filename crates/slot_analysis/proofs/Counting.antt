-- How many of some levels are below another.
use Rattle.std.proofs.Common.{arith, ◌≡◌, ◌⊎◌, inl, inr, ℕ, zero, suc, ◌+◌, ◌<◌, ◌≤◌, Bool, true, false, nat_lt, if◌then◌else◌, List, [], ◌∷◌, length, Contains, slice_index, refl, sym, ◌∙◌, ap, subst, ltb-true, ltb-false, ◌-◌, ◌↔◌, true≢false, Result, Ok, Err, MatchResult, is_ok}
use Rattle.std.proofs.lemmas.List.{get_or_default}
use Rattle.std.proofs.lemmas.List.Sorted.{searched}
use Rattle.std.specs.Bool.{IsTrue}
use Rattle.std.specs.Ordering.{nat_cmp}
use Rattle.std.specs.List.Sorted.{IsStrictlyIncreasing, IsBinarySearchResult}
use Rattle.slot_analysis.specs.Packed.{count_below}

before_or_same : (m k : ℕ) → m < suc k → (m < k) ⊎ (m ≡ k)
before_or_same m k lt = grind arith

pub below_is : (ls : List ℕ) (l p : ℕ) → p ≤ length ls → ((k : ℕ) → k < p → slice_index ls k < l) → ((k : ℕ) → p ≤ k → k < length ls → l ≤ slice_index ls k) → count_below ls l ≡ p
below_is [] l p le low high = omega arith
below_is (m ∷ ms) l zero le low high = by (nat_lt m l) refl (below_is ms l 0 (omega arith) (λ k lt. absurd (omega (arith, lt))) (λ k a b. high (suc k) (omega arith) (omega (arith, b))))
  where
    by : (b : Bool) → nat_lt m l ≡ b → count_below ms l ≡ 0 → (if b then suc (count_below ms l) else count_below ms l) ≡ 0
    by true e rest = let a = ltb-true m l e in let h = high 0 (omega arith) (omega arith) in absurd (omega (arith, a, h))
    by false e rest = rest
below_is (m ∷ ms) l (suc p) le low high = by (nat_lt m l) refl (below_is ms l p (omega (arith, le)) (λ k lt. low (suc k) (omega (arith, lt))) (λ k a b. high (suc k) (omega (arith, a)) (omega (arith, b))))
  where
    by : (b : Bool) → nat_lt m l ≡ b → count_below ms l ≡ p → (if b then suc (count_below ms l) else count_below ms l) ≡ suc p
    by true e rest = ap suc rest
    by false e rest = let a = ltb-false m l e in let h = low 0 (omega arith) in absurd (omega (arith, a, h))

pub below_rises : (ls : List ℕ) (l m : ℕ) → l ≤ m → count_below ls l ≤ count_below ls m
below_rises [] l m le = omega arith
below_rises (x ∷ xs) l m le = by (nat_lt x l) (nat_lt x m) refl refl (below_rises xs l m le)
  where
    by : (b c : Bool) → nat_lt x l ≡ b → nat_lt x m ≡ c → count_below xs l ≤ count_below xs m → (if b then suc (count_below xs l) else count_below xs l) ≤ (if c then suc (count_below xs m) else count_below xs m)
    by true true e f rest = omega (arith, rest)
    by true false e f rest = let a = ltb-true x l e in let b = ltb-false x m f in absurd (omega (arith, a, b, le))
    by false true e f rest = omega (arith, rest)
    by false false e f rest = rest

pub below_zero : (ls : List ℕ) → count_below ls 0 ≡ 0
below_zero ls = below_is ls 0 0 (omega arith) (λ k lt. absurd (omega (arith, lt))) (λ k a b. omega arith)

module _ (ls : List ℕ) (rising : IsStrictlyIncreasing ls) where
  pub in_order : (i j : ℕ) → i < j → j < length ls → slice_index ls i < slice_index ls j
  in_order i zero lt jl = absurd (omega (arith, lt))
  in_order i (suc j) lt jl =
      let q : j + 1 ≡ suc j = omega arith in
      let step : slice_index ls j < slice_index ls (suc j) = subst (λ k. slice_index ls j < slice_index ls k) q (rising j (omega (arith, jl))) in
      elim (before_or_same i j lt) [
        | inl before ↦ let h = in_order i j before (omega (arith, jl)) in omega (arith, h, step)
        | inr same ↦ subst (λ k. slice_index ls k < slice_index ls (suc j)) (sym same) step
      ]

  -- of one of the levels, its place
  pub below_at : (k : ℕ) → k < length ls → count_below ls (slice_index ls k) ≡ k
  below_at k kl = below_is ls (slice_index ls k) k (omega (arith, kl)) (λ j lt. in_order j k lt kl) (λ j a b. later j a b (side j k a))
    where
      side : (j k : ℕ) → k ≤ j → (k < j) ⊎ (k ≡ j)
      side j k a = grind arith

      later : (j : ℕ) → k ≤ j → j < length ls → (k < j) ⊎ (k ≡ j) → slice_index ls k ≤ slice_index ls j
      later j a b (inl lt) = let h = in_order k j lt b in omega (arith, h)
      later j a b (inr same) = subst (λ j. slice_index ls k ≤ slice_index ls j) same (omega arith)

  pub place_of : (l : ℕ) → Contains ls l → (k : ℕ) × (k < length ls) × (slice_index ls k ≡ l)
  place_of l (k, lt, e) = (k, lt, get_or_default ls k 0 l lt ∙ e)

  pub held : (l : ℕ) → Contains ls l → (count_below ls l < length ls) × (slice_index ls (count_below ls l) ≡ l)
  held l c =
      let (k, lt, e) = place_of l c in
      let is : count_below ls l ≡ k = subst (λ l. count_below ls l ≡ k) e (below_at k lt) in
      (subst (λ k. k < length ls) (sym is) lt, ap (slice_index ls) is ∙ e)

  -- just past one of the levels one more is below
  pub below_next : (l : ℕ) → Contains ls l → count_below ls (suc l) ≡ suc (count_below ls l)
  below_next l c =
      let (k, lt, e) = place_of l c in
      let is : count_below ls l ≡ k = subst (λ l. count_below ls l ≡ k) e (below_at k lt) in
      below_is ls (suc l) (suc k) (omega (arith, lt)) (λ j jl. low k e lt j (before_or_same j k jl)) (λ j a b. (let h = in_order k j (omega (arith, a)) b in omega (arith, h, e))) ∙ ap suc (sym is)
    where
      low : (k : ℕ) → slice_index ls k ≡ l → k < length ls → (j : ℕ) → (j < k) ⊎ (j ≡ k) → slice_index ls j < suc l
      low k e lt j (inl before) = let h = in_order j k before lt in omega (arith, h, e)
      low k e lt j (inr same) = let h = ap (slice_index ls) same in omega (arith, h, e)

  pub below_order : (l m : ℕ) → Contains ls l → l < m → count_below ls l < count_below ls m
  below_order l m c lt = let a = below_next l c in let b = below_rises ls (suc l) m (omega (arith, lt)) in omega (arith, a, b)

  -- what is one of the levels has a place of its own
  pub same_level : (l m : ℕ) → Contains ls l → Contains ls m → count_below ls l ≡ count_below ls m → l ≡ m
  same_level l m c d e = sym (held l c).1 ∙ (ap (slice_index ls) e ∙ (held m d).1)

-- what a search for a level finds
found_is : (ls : List ℕ) → IsStrictlyIncreasing ls → (l : ℕ) (r : Result ℕ ℕ) → IsBinarySearchResult (λ y. nat_cmp y l) ls r → MatchResult r (λ k. (k ≡ count_below ls l) × Contains ls l) (λ k. (k ≡ count_below ls l) × (Contains ls l → ⊥))
found_is ls rising l r h = by r (searched ls l r h (λ i j le jl. ordered i j jl (side i j le)))
  where
    side : (i j : ℕ) → i ≤ j → (i < j) ⊎ (i ≡ j)
    side i j le = grind arith

    ordered : (i j : ℕ) → j < length ls → (i < j) ⊎ (i ≡ j) → slice_index ls i ≤ slice_index ls j
    ordered i j jl (inl lt) = let q = in_order ls rising i j lt jl in omega (arith, q)
    ordered i j jl (inr same) = subst (λ k. slice_index ls i ≤ slice_index ls k) same (omega arith)

    by : (r : Result ℕ ℕ) → MatchResult r (λ i. (i < length ls) × (slice_index ls i ≡ l)) (λ i. (i ≤ length ls) × ((k : ℕ) → k < i → slice_index ls k < l) × ((k : ℕ) → i ≤ k → k < length ls → l < slice_index ls k)) →
        MatchResult r (λ k. (k ≡ count_below ls l) × Contains ls l) (λ k. (k ≡ count_below ls l) × (Contains ls l → ⊥))
    by (Ok k) (lt, e) = (sym (below_at ls rising k lt) ∙ ap (count_below ls) e, (k, lt, get_or_default ls k l 0 lt ∙ e))
    by (Err k) (le, low, high) = (sym (below_is ls l k le low (λ j a b. (let q = high j a b in omega (arith, q)))), λ c. outside k low high (place_of ls rising l c))
      where
        apart : (j k : ℕ) → (j < k) ⊎ (k ≤ j)
        apart j k = grind arith

        outside : (k : ℕ) → ((j : ℕ) → j < k → slice_index ls j < l) → ((j : ℕ) → k ≤ j → j < length ls → l < slice_index ls j) → (j : ℕ) × (j < length ls) × (slice_index ls j ≡ l) → ⊥
        outside k low high (j, jl, e) = elim (apart j k) [ inl a ↦ let q = low j a in omega (arith, q, e) | inr b ↦ let q = high j b jl in omega (arith, q, e) ]

-- no more levels are below one than there are numbers
count_small : (ls : List ℕ) (a l : ℕ) → ((i j : ℕ) → i < j → j < length ls → slice_index ls i < slice_index ls j) → ((k : ℕ) → k < length ls → a ≤ slice_index ls k) → count_below ls l ≤ l - a
count_small [] a l up low = omega arith
count_small (x ∷ xs) a l up low =
    by (nat_lt x l) refl (count_small xs (suc x) l (λ i j lt jl. up (suc i) (suc j) (omega (arith, lt)) (omega (arith, jl))) (λ k kl. (let h = up 0 (suc k) (omega arith) (omega (arith, kl)) in omega (arith, h)))) (low 0 (omega arith))
  where
    by : (b : Bool) → nat_lt x l ≡ b → count_below xs l ≤ l - suc x → a ≤ x → (if b then suc (count_below xs l) else count_below xs l) ≤ l - a
    by true e rest le = let h = ltb-true x l e in omega (arith, h, rest, le)
    by false e rest le = let h = ltb-false x l e in omega (arith, h, rest, le)

pub below_small : (ls : List ℕ) → IsStrictlyIncreasing ls → (l : ℕ) → count_below ls l ≤ l
below_small ls rising l = let h = count_small ls 0 l (in_order ls rising) (λ k kl. omega arith) in omega (arith, h)

pub found_ok : (ls : List ℕ) → IsStrictlyIncreasing ls → (l : ℕ) (r : Result ℕ ℕ) (k : ℕ) → IsBinarySearchResult (λ y. nat_cmp y l) ls r → r ≡ Ok k → (k ≡ count_below ls l) × (k ≤ l)
found_ok ls rising l r k h is =
    let m = subst (λ (r : Result ℕ ℕ). MatchResult r (λ k. (k ≡ count_below ls l) × Contains ls l) (λ k. (k ≡ count_below ls l) × (Contains ls l → ⊥))) is (found_is ls rising l r h) in
    let s = below_small ls rising l in
    (m.0, omega (arith, s, m.0))

pub found_err : (ls : List ℕ) → IsStrictlyIncreasing ls → (l : ℕ) (r : Result ℕ ℕ) (k : ℕ) → IsBinarySearchResult (λ y. nat_cmp y l) ls r → r ≡ Err k → (k ≡ count_below ls l) × (k ≤ l)
found_err ls rising l r k h is =
    let m = subst (λ (r : Result ℕ ℕ). MatchResult r (λ k. (k ≡ count_below ls l) × Contains ls l) (λ k. (k ≡ count_below ls l) × (Contains ls l → ⊥))) is (found_is ls rising l r h) in
    let s = below_small ls rising l in
    (m.0, omega (arith, s, m.0))

pub found_test : (ls : List ℕ) → IsStrictlyIncreasing ls → (l : ℕ) (r : Result ℕ ℕ) → IsBinarySearchResult (λ y. nat_cmp y l) ls r → IsTrue (is_ok r) ↔ Contains ls l
found_test ls rising l r h = by r (found_is ls rising l r h)
  where
    by : (r : Result ℕ ℕ) → MatchResult r (λ k. (k ≡ count_below ls l) × Contains ls l) (λ k. (k ≡ count_below ls l) × (Contains ls l → ⊥)) → IsTrue (is_ok r) ↔ Contains ls l
    by (Ok k) (e, c) = (λ t. c, λ _. refl)
    by (Err k) (e, none) = (λ t. absurd (true≢false (sym t)), λ c. absurd (none c))
