use Rattle.std.proofs.Common.{◌≡◌, ℕ, ◌<◌, ◌≤◌, ◌+◌, ◌⊎◌, inl, inr, ◌↔◌, Contains, List, ◌++◌, ◌∷◌, [], length, length-append, refl, sym, subst, arith, ◌∙◌, ap}
use Rattle.std.proofs.lemmas.List.Elements.{Contains-append_left, Contains-push, Contains-push_cases}
use Rattle.std.proofs.lemmas.Bool.{cases_lt}
use Rattle.recognizer_model.specs.declared.Item.{Item}
use Rattle.recognizer_model.specs.Items.{first_item}
use Rattle.begun_lists.specs.Tried.{RisesWithin}
use Rattle.begun_lists.proofs.Rising.{rises_none, rises_one, rises_as, rises_on}

module _ (old : List Item) (first earleme : ℕ) where
  abbrev pub Listed : List Item → ℕ → Type 0
  Listed new end = (other : Item) → Contains new other ↔ (Contains old other ⊎ ((r : ℕ) × (first ≤ r) × (r < end) × (other ≡ first_item r earleme)))

  pub predicted_none : Listed old first
  predicted_none other = (λ o. inl o, λ h. elim h [ inl o ↦ o | inr (r, lo, hi, e) ↦ absurd (omega arith) ])

  pub predicted_all : (new : List Item) (k end : ℕ) → Listed new k → (first ≤ k) → (k ≡ end) ⊎ ((end ≤ k) × (k ≡ first)) → Listed new end
  predicted_all new k end h lo (inl e) other = subst (λ z. Contains new other ↔ (Contains old other ⊎ ((r : ℕ) × (first ≤ r) × (r < z) × (other ≡ first_item r earleme)))) e (h other)
  predicted_all new k end h lo (inr (le, e)) other = (
    λ n. elim ((h other).0 n) [ inl o ↦ inl o | inr (r, lo', hi, s) ↦ absurd (omega arith) ],
    λ n. elim n [ inl o ↦ (h other).1 (inl o) | inr (r, lo', hi, s) ↦ absurd (omega arith) ],
  )

  pub predicted_more : (mid new : List Item) (k : ℕ) → Listed mid k → first ≤ k → new ≡ mid ++ first_item k earleme ∷ [] → Listed new (k + 1)
  predicted_more mid new k h le e other = subst (λ l. Contains l other ↔ (Contains old other ⊎ ((r : ℕ) × (first ≤ r) × (r < k + 1) × (other ≡ first_item r earleme)))) (sym e) (there, back)
    where
      there : Contains (mid ++ first_item k earleme ∷ []) other → Contains old other ⊎ ((r : ℕ) × (first ≤ r) × (r < k + 1) × (other ≡ first_item r earleme))
      there c = elim (Contains-push_cases mid (first_item k earleme) other c) [
        | inl m ↦ elim ((h other).0 m) [ inl o ↦ inl o | inr (r, lo, hi, s) ↦ inr (r, lo, omega arith, s) ]
        | inr s ↦ inr (k, le, omega arith, sym s)
      ]

      back : Contains old other ⊎ ((r : ℕ) × (first ≤ r) × (r < k + 1) × (other ≡ first_item r earleme)) → Contains (mid ++ first_item k earleme ∷ []) other
      back (inl o) = Contains-append_left mid (first_item k earleme ∷ []) other ((h other).1 (inl o))
      back (inr (r, lo, hi, s)) = elim (cases_lt r k) [
        | inl lt ↦ Contains-append_left mid (first_item k earleme ∷ []) other ((h other).1 (inr (r, lo, lt, s)))
        | inr ge ↦ let same : k ≡ r = omega arith in subst (Contains (mid ++ first_item k earleme ∷ [])) (ap (λ z. first_item z earleme) same ∙ sym s) (Contains-push mid (first_item k earleme))
      ]

  -- the rules that were listed
  abbrev pub Counted : List Item → ℕ → Type 0
  Counted new end = RisesWithin (λ (r : ℕ). (first ≤ r) × (r < end)) (length old) (length new)

  pub counted_none : Counted old first
  counted_none = rises_none (λ (r : ℕ). (first ≤ r) × (r < first)) (length old) (length old) refl

  pub counted_more : (mid new : List Item) (k : ℕ) → Counted mid k → first ≤ k → new ≡ mid ++ first_item k earleme ∷ [] → Counted new (k + 1)
  counted_more mid new k h le e =
      rises_on (λ (r : ℕ). (first ≤ r) × (r < k + 1)) (λ r (lo, hi). (lo, omega (arith, hi))) (λ r s. (omega (arith, le, s), omega (arith, s))) (λ r (lo, hi) s. omega (arith, hi, s))
      h (rises_one (λ (r : ℕ). r ≡ k) k (length mid) (length new) refl (ap length e ∙ length-append mid (first_item k earleme ∷ [])))

  pub counted_all : (new : List Item) (k end : ℕ) → Counted new k → (k ≡ end) ⊎ ((end ≤ k) × (k ≡ first)) → Counted new end
  counted_all new k end h at = rises_as (λ (r : ℕ). (first ≤ r) × (r < end)) (λ r (lo, hi). (lo, elim at [ inl e ↦ omega (arith, hi, e) | inr (le, e) ↦ absurd (omega (arith, lo, hi, e)) ])) h
