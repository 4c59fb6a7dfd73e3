-- A list with one value for each element of another.
use Rattle.std.proofs.Common.{◌≡◌, ℕ, zero, suc, List, [], ◌∷◌, map, length, inl, inr, Some, refl, ap, subst}
use Rattle.std.specs.Prelude.{slice_get}
use Rattle.finite_sets.proofs.Members.{Among}

abbrev pub Paired : {X Y : Type 0} → (X → Y → Type 0) → List X → List Y → Type 0
Paired P [] [] = Unit {0}
Paired P [] (y ∷ ys) = ⊥
Paired P (x ∷ xs) [] = ⊥
Paired P (x ∷ xs) (y ∷ ys) = P x y × Paired P xs ys

pub chosen : {X Y : Type 0} (P : X → Y → Type 0) (xs : List X) → ((x : X) → Among x xs → (y : Y) × P x y) → (ys : List Y) × Paired P xs ys
chosen P [] one = ([], tt)
chosen P (x ∷ xs) one =
    let (y, p) = one x (inl refl) in
    let (ys, ps) = chosen P xs (λ z m. one z (inr m)) in
    (y ∷ ys, (p, ps))

module _ {X Y : Type 0} (P : X → Y → Type 0) where
  pub paired_length : (xs : List X) (ys : List Y) → Paired P xs ys → length ys ≡ length xs
  paired_length [] [] p = refl
  paired_length [] (y ∷ ys) p = absurd p
  paired_length (x ∷ xs) [] p = absurd p
  paired_length (x ∷ xs) (y ∷ ys) p = ap suc (paired_length xs ys p.1)

  pub paired_get : (xs : List X) (ys : List Y) → Paired P xs ys → (i : ℕ) (x : X) (y : Y) → slice_get ys i ≡ Some y → slice_get xs i ≡ Some x → P x y
  paired_get [] [] p i x y a b = cc
  paired_get [] (y ∷ ys) p i x' y' a b = absurd p
  paired_get (x ∷ xs) [] p i x' y' a b = absurd p
  paired_get (x ∷ xs) (y ∷ ys) p zero x' y' a b =
      let d : y ≡ y' = cc in
      let e : x ≡ x' = cc in
      subst (λ z. P z y') e (subst (P x) d p.0)
  paired_get (x ∷ xs) (y ∷ ys) p (suc i) x' y' a b = paired_get xs ys p.1 i x' y' a b

  -- what is at a place of the first has a value there
  pub paired_at : (xs : List X) (ys : List Y) → Paired P xs ys → (i : ℕ) (x : X) → slice_get xs i ≡ Some x → (y : Y) × (slice_get ys i ≡ Some y) × P x y
  paired_at [] [] p i x b = cc
  paired_at [] (y ∷ ys) p i x' b = absurd p
  paired_at (x ∷ xs) [] p i x' b = absurd p
  paired_at (x ∷ xs) (y ∷ ys) p zero x' b = let e : x ≡ x' = cc in (y, refl, subst (λ z. P z y) e p.0)
  paired_at (x ∷ xs) (y ∷ ys) p (suc i) x' b = paired_at xs ys p.1 i x' b

  pub paired_map : (h : Y → X) → ((x : X) (y : Y) → P x y → h y ≡ x) → (xs : List X) (ys : List Y) → Paired P xs ys → map h ys ≡ xs
  paired_map h e [] [] p = refl
  paired_map h e [] (y ∷ ys) p = absurd p
  paired_map h e (x ∷ xs) [] p = absurd p
  paired_map h e (x ∷ xs) (y ∷ ys) p =
      let a = e x y p.0 in
      let b = paired_map h e xs ys p.1 in
      λ i. a i ∷ b i

  pub paired_from : (xs : List X) (ys : List Y) → Paired P xs ys → (y : Y) → Among y ys → (x : X) × Among x xs × P x y
  paired_from [] [] p y m = absurd m
  paired_from [] (y ∷ ys) p y' m = absurd p
  paired_from (x ∷ xs) [] p y' m = absurd p
  paired_from (x ∷ xs) (y ∷ ys) p y' (inl e) = (x, inl refl, subst (P x) e p.0)
  paired_from (x ∷ xs) (y ∷ ys) p y' (inr m) = let (z, k, q) = paired_from xs ys p.1 y' m in (z, inr k, q)
