-- Decisions of parts, of numbers, and of numbers below a bound.
use Rattle.std.proofs.Common.{arith, ℤ, ◌≤ℤ◌, T, ◌≡◌, ◌⊎◌, inl, inr, ℕ, zero, suc, ◌<◌, ◌≤◌, Bool, true, false, sym, subst, refl, true≢false}
use Rattle.std.specs.Int.Signed.{le_z, le_z_yes}
use Rattle.std.proofs.lemmas.Bool.{cases_lt}
use Rattle.std.proofs.lemmas.Int.{ints}
use Rattle.finite_sets.specs.Decided.{IsDecided}

pub both : {A B : Type 0} → IsDecided A → IsDecided B → IsDecided (A × B)
both (inl a) (inl b) = inl (a, b)
both (inl a) (inr b) = inr (λ h. b h.1)
both (inr a) b = inr (λ h. a h.0)

-- the second is asked for only where the first holds
pub both_then : {A B : Type 0} → IsDecided A → (A → IsDecided B) → IsDecided (A × B)
both_then (inl a) b = both (inl a) (b a)
both_then (inr a) b = inr (λ h. a h.0)

pub one_of : {A B : Type 0} → IsDecided A → IsDecided B → IsDecided (A ⊎ B)
one_of (inl a) b = inl (inl a)
one_of (inr a) (inl b) = inl (inr b)
one_of (inr a) (inr b) = inr (λ h. elim h [ inl x ↦ a x | inr y ↦ b y ])

pub negated : {A : Type 0} → IsDecided A → IsDecided (A → ⊥)
negated (inl a) = inr (λ f. f a)
negated (inr a) = inl a

pub implied : {A B : Type 0} → IsDecided A → IsDecided B → IsDecided (A → B)
implied (inr a) b = inl (λ x. absurd (a x))
implied (inl a) (inl b) = inl (λ x. b)
implied (inl a) (inr b) = inr (λ f. b (f a))

pub moved : {A B : Type 0} → (A → B) → (B → A) → IsDecided A → IsDecided B
moved f g (inl a) = inl (f a)
moved f g (inr a) = inr (λ b. a (g b))

-- the test of a decision
pub test_of : {A : Type 0} → IsDecided A → Bool
test_of (inl a) = true
test_of (inr a) = false

pub test_true : {A : Type 0} (d : IsDecided A) → A → test_of d ≡ true
unfolding test_of
test_true (inl a) x = refl
test_true (inr a) x = absurd (a x)

pub true_test : {A : Type 0} (d : IsDecided A) → test_of d ≡ true → A
unfolding test_of
true_test (inl a) e = a
true_test (inr a) e = absurd (true≢false (sym e))

pub is_true : (b : Bool) → IsDecided (b ≡ true)
is_true true = inl refl
is_true false = inr (λ e. true≢false (sym e))

-- ---- numbers

pub same_or_below : (i n : ℕ) → i < suc n → (i < n) ⊎ (i ≡ n)
same_or_below i n lt = grind arith

pub equal : (a b : ℕ) → IsDecided (a ≡ b)
equal a b = grind arith

pub less : (a b : ℕ) → IsDecided (a < b)
less a b = elim (cases_lt a b) [ inl lt ↦ inl lt | inr le ↦ inr (λ lt. absurd (omega arith)) ]

pub at_most : (a b : ℕ) → IsDecided (a ≤ b)
at_most a b = elim (cases_lt b a) [ inl lt ↦ inr (λ le. absurd (omega arith)) | inr le ↦ inl le ]

pub most_decided : (a b : ℤ) → IsDecided (a ≤ℤ b)
most_decided a b = go (le_z a b) refl
  where
    go : (t : Bool) → le_z a b ≡ t → IsDecided (a ≤ℤ b)
    go true e = inl (le_z_yes (subst T (sym e) tt))
    go false e = inr (λ h. subst T e h.le)

pub most_itself : (x : ℤ) → x ≤ℤ x
most_itself x = omega (arith, ints)

pub most_through : (x y z : ℤ) → x ≤ℤ y → y ≤ℤ z → x ≤ℤ z
most_through x y z a b = omega (arith, ints, a, b)

pub most_twice : (x y : ℤ) → x ≤ℤ y → y ≤ℤ x → x ≡ y
most_twice x y a b = omega (arith, ints, a, b)

-- ---- numbers below a bound

module _ (P : ℕ → Type 0) where
  pub some_below : (n : ℕ) → ((i : ℕ) → i < n → IsDecided (P i)) → IsDecided ((i : ℕ) × (i < n) × P i)
  some_below zero d = inr (λ (i, lt, p). absurd (omega (arith, lt)))
  some_below (suc n) d = go (d n (omega arith)) (some_below n (λ i lt. d i (omega arith)))
    where
      go : IsDecided (P n) → IsDecided ((i : ℕ) × (i < n) × P i) → IsDecided ((i : ℕ) × (i < suc n) × P i)
      go (inl p) s = inl (n, omega arith, p)
      go (inr p) (inl (i, lt, q)) = inl (i, omega arith, q)
      go (inr p) (inr s) = inr (λ (i, lt, q). elim (same_or_below i n lt) [ inl l ↦ s (i, l, q) | inr e ↦ p (subst P e q) ])

  pub each_below : (n : ℕ) → ((i : ℕ) → i < n → IsDecided (P i)) → IsDecided ((i : ℕ) → i < n → P i)
  each_below zero d = inl (λ i lt. absurd (omega arith))
  each_below (suc n) d = go (d n (omega arith)) (each_below n (λ i lt. d i (omega arith)))
    where
      go : IsDecided (P n) → IsDecided ((i : ℕ) → i < n → P i) → IsDecided ((i : ℕ) → i < suc n → P i)
      go (inr p) s = inr (λ all. p (all n (omega arith)))
      go (inl p) (inr s) = inr (λ all. s (λ i lt. all i (omega arith)))
      go (inl p) (inl s) = inl (λ i lt. elim (same_or_below i n lt) [ inl l ↦ s i l | inr e ↦ subst P (sym e) p ])

  -- the least of which it holds, or none
  pub least_below : (n : ℕ) → ((i : ℕ) → i < n → IsDecided (P i)) → ((i : ℕ) × (i < n) × P i × ((j : ℕ) → j < i → P j → ⊥)) ⊎ ((i : ℕ) → i < n → P i → ⊥)
  least_below zero d = inr (λ i lt p. absurd (omega arith))
  least_below (suc n) d = go (least_below n (λ i lt. d i (omega arith))) (d n (omega arith))
    where
      go : ((i : ℕ) × (i < n) × P i × ((j : ℕ) → j < i → P j → ⊥)) ⊎ ((i : ℕ) → i < n → P i → ⊥) → IsDecided (P n) → ((i : ℕ) × (i < suc n) × P i × ((j : ℕ) → j < i → P j → ⊥)) ⊎ ((i : ℕ) → i < suc n → P i → ⊥)
      go (inl (i, lt, p, none)) q = inl (i, omega arith, p, none)
      go (inr none) (inl q) = inl (n, omega arith, q, none)
      go (inr none) (inr q) = inr (λ i lt p. elim (same_or_below i n lt) [ inl l ↦ none i l p | inr e ↦ q (subst P e p) ])

  -- where it holds of some number, it holds of a least one
  pub least_of : ((i : ℕ) → IsDecided (P i)) → (n : ℕ) → P n → (i : ℕ) × P i × ((j : ℕ) → j < i → P j → ⊥)
  least_of d n p = elim (least_below (suc n) (λ i lt. d i)) [ inl (i, lt, q, none) ↦ (i, q, none) | inr none ↦ absurd (none n (omega arith) p) ]

  -- the greatest below the bound of which it holds, or none
  pub greatest_below : (n : ℕ) → ((i : ℕ) → i < n → IsDecided (P i)) → ((i : ℕ) × (i < n) × P i × ((j : ℕ) → j < n → P j → j ≤ i)) ⊎ ((i : ℕ) → i < n → P i → ⊥)
  greatest_below zero d = inr (λ i lt p. absurd (omega arith))
  greatest_below (suc n) d = go (d n (omega arith)) (greatest_below n (λ i lt. d i (omega arith)))
    where
      go : IsDecided (P n) → ((i : ℕ) × (i < n) × P i × ((j : ℕ) → j < n → P j → j ≤ i)) ⊎ ((i : ℕ) → i < n → P i → ⊥) → ((i : ℕ) × (i < suc n) × P i × ((j : ℕ) → j < suc n → P j → j ≤ i)) ⊎ ((i : ℕ) → i < suc n → P i → ⊥)
      go (inl p) r = inl (n, omega arith, p, (λ j lt q. omega (arith, lt)))
      go (inr p) (inl (i, lt, q, most)) = inl (i, omega (arith, lt), q, (λ j l h. elim (same_or_below j n l) [ inl low ↦ most j low h | inr e ↦ absurd (p (subst P e h)) ]))
      go (inr p) (inr none) = inr (λ i l h. elim (same_or_below i n l) [ inl low ↦ none i low h | inr e ↦ p (subst P e h) ])
