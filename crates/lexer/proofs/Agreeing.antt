-- Lists that agree at each place.
use Rattle.std.proofs.Common.{◌≡◌, ◌⊎◌, ◌↔◌, inl, inr, ℕ, suc, ◌+◌, ◌<◌, List, [], ◌∷◌, Bool, true, false, length, refl, sym, ap, subst, ◌∙◌, arith}
use Rattle.std.specs.Prelude.{IsTrue, nat_eq, slice_index_or, ◌&&◌}
use Rattle.std.proofs.lemmas.Bool.{eqb-true}

abbrev pub Agree : List ℕ → List ℕ → ℕ → Type 0
Agree xs ys k = (j : ℕ) → j < k → slice_index_or xs j 0 ≡ slice_index_or ys j 0

same_or_below : (j k : ℕ) → j < k + 1 → (j < k) ⊎ (j ≡ k)
same_or_below j k lt = grind arith

differ : (a b : ℕ) → nat_eq a b ≡ false → a ≡ b → ⊥
differ a b e f = grind (arith, e, f)

pub agree_more : (xs ys : List ℕ) (k : ℕ) (same : Bool) → IsTrue same ↔ Agree xs ys k → IsTrue (same && nat_eq (slice_index_or xs k 0) (slice_index_or ys k 0)) ↔ Agree xs ys (k + 1)
agree_more xs ys k same (to, from) = go same (nat_eq (slice_index_or xs k 0) (slice_index_or ys k 0)) refl to from
  where
    go : (same here : Bool) → nat_eq (slice_index_or xs k 0) (slice_index_or ys k 0) ≡ here → (IsTrue same → Agree xs ys k) → (Agree xs ys k → IsTrue same) → IsTrue (same && here) ↔ Agree xs ys (k + 1)
    go true true e to from = (
      λ h. λ j lt. elim (same_or_below j k lt) [
        | inl below ↦ to refl j below
        | inr last ↦ subst (λ n. slice_index_or xs n 0 ≡ slice_index_or ys n 0) (sym last) (eqb-true (slice_index_or xs k 0) (slice_index_or ys k 0) e)
      ],
      λ h. refl,
    )
    go true false e to from = (λ h. absurd (cc), λ h. absurd (differ (slice_index_or xs k 0) (slice_index_or ys k 0) e (h k (omega arith))))
    go false here e to from = (λ h. absurd (cc), λ h. from (λ j lt. h j (omega (arith, lt))))

pub agree_all : (xs ys : List ℕ) → length xs ≡ length ys → Agree xs ys (length xs) → xs ≡ ys
agree_all [] [] e h = refl
agree_all [] (y ∷ ys) e h = absurd (omega (arith, e))
agree_all (x ∷ xs) [] e h = absurd (omega (arith, e))
agree_all (x ∷ xs) (y ∷ ys) e h = ap (λ (z : ℕ). z ∷ xs) (h 0 (omega arith)) ∙ ap (λ (l : List ℕ). y ∷ l) (agree_all xs ys (omega (arith, e)) (λ j lt. h (suc j) (omega (arith, lt))))
