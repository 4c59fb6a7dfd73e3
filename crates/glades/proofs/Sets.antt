-- Lists in which one element is set.
use Rattle.std.proofs.Common.{◌≡◌, ◌≢◌, ℕ, zero, suc, ◌<◌, List, [], ◌∷◌, length, ◌⊎◌, inl, inr, Some, refl, ap, ◌∙◌, subst, sym, arith}
use Rattle.std.specs.Prelude.{Bool, Option, slice_get, slice_set}
use Rattle.std.proofs.lemmas.List.{length-set}
use Rattle.forest_model.specs.Forest.{Forest}
use Rattle.glade_laws.specs.Walks.{HasSecond}
use Rattle.glades.specs.Links.{AreKnown}

module _ {A : Type 0} where
  pub got_set : (xs : List A) (k : ℕ) (x : A) (j : ℕ) (y : A) → slice_get (slice_set xs k x) j ≡ Some y → ((j ≢ k) × (slice_get xs j ≡ Some y)) ⊎ ((j ≡ k) × (y ≡ x))
  got_set [] k x j y e = absurd (cc)
  got_set (z ∷ zs) zero x zero y e = inr (refl, cc)
  got_set (z ∷ zs) zero x (suc j) y e = inl ((λ n. absurd (omega (arith, n))), e)
  got_set (z ∷ zs) (suc k) x zero y e = inl ((λ n. absurd (omega (arith, n))), e)
  got_set (z ∷ zs) (suc k) x (suc j) y e = elim (got_set zs k x j y e) [ inl (n, o) ↦ inl ((λ m. n (omega (arith, m))), o) | inr (n, o) ↦ inr (ap suc n, o) ]

  pub set_here : (xs : List A) (k : ℕ) (x : A) → k < length xs → slice_get (slice_set xs k x) k ≡ Some x
  set_here [] k x lt = absurd (omega arith)
  set_here (z ∷ zs) zero x lt = refl
  set_here (z ∷ zs) (suc k) x lt = set_here zs k x (omega arith)

  pub set_other : (xs : List A) (k : ℕ) (x : A) (j : ℕ) → j ≢ k → slice_get (slice_set xs k x) j ≡ slice_get xs j
  set_other [] k x j n = refl
  set_other (z ∷ zs) zero x zero n = absurd (n refl)
  set_other (z ∷ zs) zero x (suc j) n = refl
  set_other (z ∷ zs) (suc k) x zero n = refl
  set_other (z ∷ zs) (suc k) x (suc j) n = set_other zs k x j (λ e. n (ap suc e))

-- what is found out is known
pub known_set : (f : Forest) (seconds : List (Option Bool)) (n : ℕ) (b : Bool) → AreKnown f seconds → HasSecond f n b → AreKnown f (slice_set seconds n (Some b))
known_set f seconds n b known h = record {
  long = length-set seconds n (Some b) ∙ known.long;
  known = λ k second e. elim (got_set seconds n (Some b) k (Some second) e) [
    | inl (other, at) ↦ known.known k second at
    | inr (same, is) ↦ subst (λ j. HasSecond f j second) (sym same) (subst (HasSecond f n) (sym (some_is is)) h)
  ];
}
  where
    some_is : {x y : Bool} → Some x ≡ Some y → x ≡ y
    some_is e = cc
