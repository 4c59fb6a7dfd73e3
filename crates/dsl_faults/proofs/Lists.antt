-- Lists that are made piece by piece.
use Rattle.std.proofs.Common.{◌≡◌, ℕ, zero, suc, ◌+◌, ◌<◌, List, [], ◌∷◌, ◌++◌, length, take, get_or, refl, sym, ap, ◌∙◌, arith, append-nil, add-one, Some}
use Rattle.std.proofs.Math.Seq.{take-suc}
use Rattle.std.specs.Prelude.{flat_map, slice_get}
use Rattle.language_model.specs.Building.{count_from}
use Rattle.std.proofs.lemmas.Grind.{flat_map-append}
use Rattle.std.proofs.lemmas.Option.{same_Some}

pub flat_same : {A B : Type 0} (f g : A → List B) (xs : List A) → ((x : A) → f x ≡ g x) → flat_map f xs ≡ flat_map g xs
flat_same f g [] same = refl
flat_same f g (x ∷ xs) same = ap (λ ys. f x ++ ys) (flat_same f g xs same) ∙ ap (λ y. y ++ flat_map g xs) (same x)

-- one more piece
pub flat_more : {A B : Type 0} (g : A → List B) (xs : List A) (i : ℕ) (x : A) → i < length xs → x ≡ get_or xs i x → flat_map g (take (i + 1) xs) ≡ flat_map g (take i xs) ++ g x
flat_more g xs i x lt is =
    ap (λ k. flat_map g (take k xs)) (add-one i) ∙ ap (flat_map g) (take-suc xs i x lt) ∙ flat_map-append g (take i xs) (get_or xs i x ∷ [])
    ∙ ap (λ ys. flat_map g (take i xs) ++ ys) (append-nil (g (get_or xs i x)) ∙ ap g (sym is))

take_get_suc : {A : Type 0} (x : A) (xs : List A) (i : ℕ) → slice_get xs i ≡ Some x → take (suc i) xs ≡ take i xs ++ x ∷ []
take_get_suc x [] i e = cc
take_get_suc x (y ∷ ys) zero e = ap (λ z. z ∷ []) (same_Some y x e)
take_get_suc x (y ∷ ys) (suc i) e = ap (λ zs. y ∷ zs) (take_get_suc x ys i e)

pub take_get : {A : Type 0} (xs : List A) (i : ℕ) (x : A) → slice_get xs i ≡ Some x → take (i + 1) xs ≡ take i xs ++ x ∷ []
take_get xs i x e = ap (λ k. take k xs) (add-one i) ∙ take_get_suc x xs i e

count_suc : (n k : ℕ) → count_from n (suc k) ≡ count_from n k ++ (n + k) ∷ []
count_suc n zero = let e : n ≡ n + 0 = omega arith in ap (λ m. m ∷ []) e
count_suc n (suc k) = let e : n + 1 + k ≡ n + suc k = omega arith in ap (λ ms. n ∷ ms) (count_suc (n + 1) k ∙ ap (λ m. count_from (n + 1) k ++ m ∷ []) e)

pub count_more : (n k m : ℕ) → m ≡ n + k → count_from n (k + 1) ≡ count_from n k ++ m ∷ []
count_more n k m e = ap (count_from n) (add-one k) ∙ count_suc n k ∙ ap (λ x. count_from n k ++ x ∷ []) (sym e)
