-- Sets that grow round by round within a finite universe: they settle, so what they come to is decided.
use Rattle.std.proofs.Common.{arith, ◌≡◌, ◌⊎◌, inl, inr, ℕ, zero, suc, ◌+◌, ◌≤◌, List, [], ◌∷◌, length, subst}
use Rattle.finite_sets.specs.Decided.{IsDecided}
use Rattle.finite_sets.proofs.Deciding.{moved}
use Rattle.finite_sets.proofs.Members.{Among, some_among, without}

-- a round is decided of what is known, and rests on the members of the round before
pub record AreRounds {X : Type 0} (universe : List X) (known : X → Type 0) (round : ℕ → X → Type 0) : Type 0 where
  pub members : (x : X) → Among x universe → known x
  pub grows : (k : ℕ) (x : X) → known x → round k x → round (suc k) x
  pub next : (j k : ℕ) → ((x : X) → Among x universe → round j x → round k x) → (x : X) → known x → round (suc j) x → round (suc k) x
  pub first_decided : (x : X) → known x → IsDecided (round 0 x)
  pub next_decided : (k : ℕ) → ((x : X) → Among x universe → IsDecided (round k x)) → (x : X) → known x → IsDecided (round (suc k) x)

module _ {X : Type 0} (universe : List X) (known : X → Type 0) (round : ℕ → X → Type 0) (r : AreRounds universe known round) where
  pub round_decided : (k : ℕ) (x : X) → known x → IsDecided (round k x)
  round_decided zero x h = r.first_decided x h
  round_decided (suc k) x h = r.next_decided k (λ y m. round_decided k y (r.members y m)) x h

  -- no member is new in the next round
  abbrev pub IsSettled : ℕ → Type 0
  IsSettled m = (x : X) → Among x universe → round (suc m) x → round m x

  settle : (n : ℕ) (open_ones : List X) (k : ℕ) → length open_ones ≡ n → ((x : X) → Among x open_ones → Among x universe) → ((x : X) → Among x universe → round k x ⊎ Among x open_ones) →
      (m : ℕ) × (m ≤ n + k) × IsSettled m
  settle zero [] k e inside all = (k, omega arith, λ x m h. elim (all x m) [ inl old ↦ old | inr none ↦ absurd none ])
  settle zero (y ∷ ys) k e inside all = absurd (omega (arith, e))
  settle (suc n) xs k e inside all = go (λ ys j. settle n ys j) (some_among (round (suc k)) xs (λ x m. round_decided (suc k) x (r.members x (inside x m))))
    where
      go : ((ys : List X) (j : ℕ) → length ys ≡ n → ((x : X) → Among x ys → Among x universe) → ((x : X) → Among x universe → round j x ⊎ Among x ys) → (m : ℕ) × (m ≤ n + j) × IsSettled m) →
          IsDecided ((x : X) × Among x xs × round (suc k) x) → (m : ℕ) × (m ≤ suc n + k) × IsSettled m
      go rec (inr none) = (k, omega arith, λ x m h. elim (all x m) [ inl old ↦ old | inr new ↦ absurd (none (x, new, h)) ])
      go rec (inl (x, m, h)) =
          let (ys, shorter, parted, back) = without x xs m in
          let (s, le, is) = rec ys (suc k) (omega (arith, e, shorter)) (λ y a. inside y (back y a))
          (λ y a. elim (all y a) [ inl old ↦ inl (r.grows k y (r.members y a) old) | inr new ↦ elim (parted y new) [ inl same ↦ inl (subst (round (suc k)) same h) | inr still ↦ inr still ] ]) in
          (s, omega (arith, le), is)

  -- it settles within as many rounds as the universe has members
  pub settled : (m : ℕ) × (m ≤ length universe) × IsSettled m
  settled = let (m, le, is) = settle (length universe) universe 0 (λ i. length universe) (λ x a. a) (λ x a. inr a) in (m, omega (arith, le), is)

  -- a round sooner where the first has a member
  pub settled_early : (x : X) → Among x universe → round 0 x → (m : ℕ) × (suc m ≤ length universe) × IsSettled m
  settled_early x a first =
      let (ys, shorter, parted, back) = without x universe a in
      let (m, le, is) = settle (length ys) ys 0 (λ i. length ys) back (λ y b. elim (parted y b) [ inl e ↦ inl (subst (round 0) e first) | inr c ↦ inr c ]) in
      (m, omega (arith, le, shorter), is)

  pub grown : (j k : ℕ) (x : X) → known x → round j x → round (j + k) x
  grown j zero x h a = subst (λ n. round n x) (let e : j ≡ j + 0 = omega arith in e) a
  grown j (suc k) x h a = subst (λ n. round n x) (let e : suc (j + k) ≡ j + suc k = omega arith in e) (r.grows (j + k) x h (grown j k x h a))

  -- what is settled stays
  stays : (m : ℕ) → IsSettled m → (k : ℕ) (x : X) → Among x universe → round (k + m) x → round m x
  stays m is zero x a h = subst (λ n. round n x) (let e : 0 + m ≡ m = omega arith in e) h
  stays m is (suc k) x a h =
      is x a (r.next (k + m) m (λ y b. stays m is k y b) x (r.members x a) (subst (λ n. round n x) (let e : suc k + m ≡ suc (k + m) = omega arith in e) h))

  pub settled_all : (m : ℕ) → IsSettled m → (k : ℕ) (x : X) → Among x universe → round k x → round m x
  settled_all m is k x a h = stays m is k x a (grown k m x (r.members x a) h)

  -- whether it is in some round
  pub decided : (x : X) → known x → IsDecided ((k : ℕ) × round k x)
  decided x h =
      let (m, le, is) = settled in
      moved (λ a. (suc m, a)) (λ (k, a). lifted m is k a) (round_decided (suc m) x h)
    where
      lifted : (m : ℕ) → IsSettled m → (k : ℕ) → round k x → round (suc m) x
      lifted m is zero a = subst (λ n. round n x) (let e : 0 + suc m ≡ suc m = omega arith in e) (grown 0 (suc m) x h a)
      lifted m is (suc k) a = r.next k m (settled_all m is k) x h a
