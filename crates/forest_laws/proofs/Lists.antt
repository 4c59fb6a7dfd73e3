-- Lists that are mapped flat, element for element.
use Rattle.std.proofs.Common.{◌≡◌, ℕ, zero, suc, ◌<◌, List, [], ◌∷◌, ◌++◌, length, ◌⊎◌, inl, inr, Some, refl, subst, arith}
use Rattle.std.specs.Prelude.{slice_get, Contains}
use Rattle.std.specs.List.{flat_map}
use Rattle.finite_sets.proofs.Members.{among_from, Among}

pub flat_map_same : {X Z : Type 0} (f h : X → List Z) (xs : List X) → ((x : X) → Among x xs → f x ≡ h x) → flat_map f xs ≡ flat_map h xs
flat_map_same f h [] e = refl
flat_map_same f h (x ∷ xs) e =
    let a = e x (inl refl) in
    let b = flat_map_same f h xs (λ y m. e y (inr m)) in
    λ i. a i ++ b i

-- of two lists, place for place
pub flat_map_both : {X Y Z : Type 0} (f : X → List Z) (h : Y → List Z) (xs : List X) (ys : List Y) → length xs ≡ length ys →
    ((i : ℕ) (x : X) (y : Y) → slice_get xs i ≡ Some x → slice_get ys i ≡ Some y → f x ≡ h y) → flat_map f xs ≡ flat_map h ys
flat_map_both f h [] [] l e = refl
flat_map_both f h [] (y ∷ ys) l e = absurd (omega arith)
flat_map_both f h (x ∷ xs) [] l e = absurd (omega arith)
flat_map_both f h (x ∷ xs) (y ∷ ys) l e =
    let a = e 0 x y refl refl in
    let b = flat_map_both f h xs ys (omega arith) (λ i z w c d. e (suc i) z w c d) in
    λ i. a i ++ b i

-- a list as long has an element there too
pub get_there : {X Y : Type 0} (xs : List X) (ys : List Y) (n : ℕ) (x : X) → length xs ≡ length ys → slice_get xs n ≡ Some x → (y : Y) × (slice_get ys n ≡ Some y)
get_there [] ys n x l e = cc
get_there (x' ∷ xs) [] n x l e = absurd (omega arith)
get_there (x' ∷ xs) (y ∷ ys) zero x l e = (y, refl)
get_there (x' ∷ xs) (y ∷ ys) (suc n) x l e = get_there xs ys n x (omega arith) e

pub get_first : {X : Type 0} (xs : List X) → 0 < length xs → (x : X) × Among x xs
get_first [] h = absurd (omega arith)
get_first (x ∷ xs) h = (x, inl refl)

pub only_one : {X : Type 0} (P : X → Type 0) (x t : X) → P x → Contains (x ∷ []) t → P t
only_one P x t p c = go (among_from (x ∷ []) t c)
  where
    go : (x ≡ t) ⊎ ⊥ → P t
    go (inl e) = subst P e p
    go (inr b) = absurd b
