-- The laws of numbers below a bound.
use Rattle.std.proofs.Common.{arith, ◌≡◌, inl, inr, ℕ, zero, suc, ◌<◌, ◌≤◌, Bool, true, List, length, refl, sym, subst, ap, true≢false}
use Rattle.finite_sets.specs.Decided.{IsDecided}
use Rattle.finite_sets.specs.Walks.{Walk, Leads}
use Rattle.finite_sets.specs.Laws.{IsWithin, Grows, round, RoundsSettle, Step, WalksAreDecided, WalksAreShort, HeightsOrCycle}
use Rattle.finite_sets.proofs.Deciding.{both, equal, less, is_true}
use Rattle.finite_sets.proofs.Members.{Among, values, among_values, among_values_from, some_among}
use Rattle.finite_sets.proofs.Rounds.{AreRounds, settled, settled_all}
use Rattle.finite_sets.proofs.Walks.{reach_decided, leads_decided, shortened, height, falls}

numbers : ℕ → List ℕ
numbers bound = values (λ k. k) bound

below : (bound x : ℕ) → Among x (numbers bound) → x < bound
unfolding numbers
below bound x m = let (k, lt, e) = among_values_from (λ k. k) bound x m in omega (arith, lt, e)

inside : (bound x : ℕ) → x < bound → Among x (numbers bound)
unfolding numbers
inside bound x lt = among_values (λ k. k) bound x lt

values_length : (bound : ℕ) → length (values (λ k. k) bound) ≡ bound
values_length zero = refl
values_length (suc n) = ap suc (values_length n)

numbers_length : (bound : ℕ) → length (numbers bound) ≡ bound
unfolding numbers
numbers_length bound = values_length bound

-- ---- rounds

module _ (bound : ℕ) (next : (ℕ → Bool) → ℕ → Bool) (mono : Grows bound next) where
  grows : (k : ℕ) → IsWithin bound (round next k) (round next (suc k))
  grows zero x lt e = absurd (true≢false (sym e))
  grows (suc k) x lt e = mono (round next k) (round next (suc k)) (grows k) x lt e

  rounds : AreRounds (numbers bound) (λ x. x < bound) (λ k x. round next k x ≡ true)
  rounds = record {
    members = λ x m. below bound x m;
    grows = grows;
    next = λ j k f x lt e. mono (round next j) (round next k) (λ y yl h. f y (inside bound y yl) h) x lt e;
    first_decided = λ x lt. is_true (round next 0 x);
    next_decided = λ k d x lt. is_true (round next (suc k) x);
  }

  settles : (m : ℕ) × (m ≤ bound) × ((k : ℕ) → IsWithin bound (round next k) (round next m))
  settles =
      let (m, le, is) = settled (numbers bound) (λ x. x < bound) (λ k x. round next k x ≡ true) rounds in
      let long = numbers_length bound in
      (m, omega (arith, le, long), λ k x lt e. settled_all (numbers bound) (λ x. x < bound) (λ k x. round next k x ≡ true) rounds m is k x (inside bound x lt) e)

pub rounds_settle : RoundsSettle
rounds_settle bound next mono = settles bound next mono

-- ---- walks

module _ (bound : ℕ) (step : ℕ → ℕ → Bool) where
  step_decided : (x y : ℕ) → IsDecided (Step bound step x y)
  step_decided x y = both (less y bound) (is_true (step x y))

  within : (x y : ℕ) → Step bound step x y → Among y (numbers bound)
  within x y s = inside bound y s.0

pub walks_are_decided : WalksAreDecided
walks_are_decided bound step x y = reach_decided (Step bound step) (numbers bound) equal (step_decided bound step) (within bound step) x y

pub walks_are_short : WalksAreShort
walks_are_short bound step n x y w =
    let (m, le, v) = shortened (Step bound step) (numbers bound) equal (step_decided bound step) (within bound step) n x y w in
    let long = numbers_length bound in
    (m, omega (arith, le, long), v)

-- what leads back is below the bound
back_below : (bound : ℕ) (step : ℕ → ℕ → Bool) (n z x : ℕ) → z < bound → Walk (Step bound step) n z x → x < bound
back_below bound step zero z x lt e = subst (λ k. k < bound) e lt
back_below bound step (suc n) z x lt (t, s, w) = back_below bound step n t x s.0 w

pub heights_or_cycle : HeightsOrCycle
heights_or_cycle bound step =
    elim (some_among (λ x. Leads (Step bound step) x x) (numbers bound) (λ x m. leads_decided (Step bound step) (numbers bound) equal (step_decided bound step) (within bound step) x x)) [
      | inl (x, m, l) ↦ inl (x, l)
      | inr none ↦
          let clear : (x : ℕ) → Leads (Step bound step) x x → ⊥ = λ x l. none (x, inside bound x (back_below bound step l.0 l.1.0 x l.1.1.0 l.1.2), l) in
          inr (height (Step bound step) (numbers bound) equal (step_decided bound step) (within bound step) clear, falls (Step bound step) (numbers bound) equal (step_decided bound step) (within bound step) clear)
    ]
