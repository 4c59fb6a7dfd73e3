-- Where the elements of lists stand that are made of parts.
use Rattle.std.proofs.Common.{◌≡◌, ℕ, zero, suc, ◌+◌, ◌<◌, ◌≤◌, List, [], ◌∷◌, ◌++◌, length, replicate, slice_get, Some, refl, ap, arith}

pub get_left : {X : Type 0} (xs ys : List X) (i : ℕ) → i < length xs → slice_get (xs ++ ys) i ≡ slice_get xs i
get_left [] ys i lt = absurd (omega arith)
get_left (x ∷ xs) ys zero lt = refl
get_left (x ∷ xs) ys (suc i) lt = get_left xs ys i (omega (arith, lt))

pub get_right : {X : Type 0} (xs ys : List X) (i j : ℕ) → j ≡ length xs + i → slice_get (xs ++ ys) j ≡ slice_get ys i
get_right [] ys i j e = ap (slice_get ys) (let same : j ≡ i = omega (arith, e) in same)
get_right (x ∷ xs) ys i zero e = absurd (omega (arith, e))
get_right (x ∷ xs) ys i (suc j) e = get_right xs ys i j (omega (arith, e))

pub get_copy : {X : Type 0} (n : ℕ) (x : X) (i : ℕ) → i < n → slice_get (replicate n x) i ≡ Some x
get_copy zero x i lt = absurd (omega arith)
get_copy (suc n) x zero lt = refl
get_copy (suc n) x (suc i) lt = get_copy n x i (omega (arith, lt))

pub get_past : {X : Type 0} (xs : List X) (i : ℕ) (x : X) → length xs ≤ i → slice_get xs i ≡ Some x → ⊥
get_past [] i x le e = cc
get_past (y ∷ ys) zero x le e = omega arith
get_past (y ∷ ys) (suc i) x le e = get_past ys i x (omega (arith, le)) e
