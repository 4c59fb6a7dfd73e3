-- Walks by the steps of a decided relation to members of a finite universe.
use Rattle.std.proofs.Common.{arith, ◌≡◌, ◌⊎◌, inl, inr, ℕ, zero, suc, ◌+◌, ◌<◌, ◌≤◌, List, length, refl, sym, subst}
use Rattle.finite_sets.specs.Decided.{IsDecided}
use Rattle.finite_sets.specs.Walks.{Walk, Leads}
use Rattle.finite_sets.proofs.Deciding.{moved, one_of, both}
use Rattle.finite_sets.proofs.Members.{Among, some_among}
use Rattle.finite_sets.proofs.Rounds.{AreRounds, decided, settled_early, settled_all}
use Rattle.finite_sets.proofs.Choosing.{count, count_less}

module _ {X : Type 0} (Step : X → X → Type 0) where
  pub walk_on : (m n : ℕ) (x y z : X) → Walk Step m x y → Walk Step n y z → Walk Step (m + n) x z
  walk_on zero n x y z a b = subst (λ k. Walk Step k x z) (let e : n ≡ 0 + n = omega arith in e) (subst (λ w. Walk Step n w z) (sym a) b)
  walk_on (suc m) n x y z (t, s, a) b = subst (λ k. Walk Step k x z) (let e : suc (m + n) ≡ suc m + n = omega arith in e) (t, s, walk_on m n t y z a b)

  pub leads_on : (x y z : X) → Leads Step x y → Leads Step y z → Leads Step x z
  leads_on x y z (m, a) (n, b) = (m + suc n, subst (λ k. Walk Step k x z) (let e : suc m + suc n ≡ suc (m + suc n) = omega arith in e) (walk_on (suc m) (suc n) x y z a b))

  pub one_step : (x y : X) → Step x y → Leads Step x y
  one_step x y s = (0, (y, s, refl))

  module _ (universe : List X) (same : (x y : X) → IsDecided (x ≡ y)) (step : (x y : X) → IsDecided (Step x y)) (within : (x y : X) → Step x y → Among y universe) where
    pub walk_decided : (n : ℕ) (x y : X) → IsDecided (Walk Step n x y)
    walk_decided zero x y = same x y
    walk_decided (suc n) x y = moved (λ (z, m, (s, w)). (z, s, w)) (λ (z, s, w). (z, within x z s, (s, w))) (some_among (λ z. Step x z × Walk Step n z y) universe (λ z m. both (step x z) (walk_decided n z y)))

    -- in so many steps at most
    abbrev Nears : X → ℕ → X → Type 0
    Nears y zero x = x ≡ y
    Nears y (suc k) x = (x ≡ y) ⊎ ((z : X) × Step x z × Nears y k z)

    grows : (y : X) (k : ℕ) (x : X) → Nears y k x → Nears y (suc k) x
    grows y zero x e = inl e
    grows y (suc k) x (inl e) = inl e
    grows y (suc k) x (inr (z, s, a)) = inr (z, s, grows y k z a)

    near_rounds : (y : X) → AreRounds universe (λ x. Unit {0}) (Nears y)
    near_rounds y = record {
      members = λ x m. tt;
      grows = λ k x h a. grows y k x a;
      next = λ j k f x h a. elim a [ inl e ↦ inl e | inr (z, s, b) ↦ inr (z, s, f z (within x z s) b) ];
      first_decided = λ x h. same x y;
      next_decided = λ k d x h.
          one_of (same x y) (moved (λ (z, m, (s, w)). (z, s, w)) (λ (z, s, w). (z, within x z s, (s, w))) (some_among (λ z. Step x z × Nears y k z) universe (λ z m. both (step x z) (d z m))));
    }

    near_from : (n : ℕ) (x y : X) → Walk Step n x y → Nears y n x
    near_from zero x y e = e
    near_from (suc n) x y (z, s, w) = inr (z, s, near_from n z y w)

    walk_from : (k : ℕ) (x y : X) → Nears y k x → (n : ℕ) × (n ≤ k) × Walk Step n x y
    walk_from zero x y e = (0, omega arith, e)
    walk_from (suc k) x y (inl e) = (0, omega arith, e)
    walk_from (suc k) x y (inr (z, s, a)) = let (n, le, w) = walk_from k z y a in (suc n, omega (arith, le), (z, s, w))

    pub reach_decided : (x y : X) → IsDecided ((n : ℕ) × Walk Step n x y)
    reach_decided x y = moved (λ (k, a). let (n, le, w) = walk_from k x y a in (n, w)) (λ (n, w). (n, near_from n x y w)) (decided universe (λ x. Unit {0}) (Nears y) (near_rounds y) x tt)

    pub leads_decided : (x y : X) → IsDecided (Leads Step x y)
    leads_decided x y =
        moved (λ (z, m, (s, (n, w))). (n, (z, s, w))) (λ (n, (z, s, w)). (z, within x z s, (s, (n, w))))
        (some_among (λ z. Step x z × ((n : ℕ) × Walk Step n z y)) universe (λ z m. both (step x z) (reach_decided z y)))

    walk_end : (n : ℕ) (x y z : X) → Step x z → Walk Step n z y → Among y universe
    walk_end zero x y z s e = subst (λ t. Among t universe) e (within x z s)
    walk_end (suc n) x y z s (t, s', w) = walk_end n z y t s' w

    -- a walk is no longer than the universe, or there is a shorter one
    pub shortened : (n : ℕ) (x y : X) → Walk Step n x y → (m : ℕ) × (m ≤ length universe) × Walk Step m x y
    shortened zero x y e = (0, omega arith, e)
    shortened (suc n) x y (z, s, w) =
        let (m, le, is) = settled_early universe (λ x. Unit {0}) (Nears y) (near_rounds y) y (walk_end n x y z s w) refl in
        let near = settled_all universe (λ x. Unit {0}) (Nears y) (near_rounds y) m is n z (within x z s) (near_from n z y w) in
        let (k, small, v) = walk_from m z y near in
        (suc k, omega (arith, small, le), (z, s, v))

    -- where no walk leads back, a height falls by each step: how many members a walk leads to
    module _ (acyclic : (x : X) → Leads Step x x → ⊥) where
      pub height : X → ℕ
      height x = count (Leads Step x) (leads_decided x) universe

      pub falls : (x y : X) → Step x y → height y < height x
      unfolding height
      falls x y s = count_less (Leads Step y) (Leads Step x) (leads_decided y) (leads_decided x) (λ z l. leads_on x y z (one_step x y s) l) universe y (within x y s) (acyclic y) (one_step x y s)
