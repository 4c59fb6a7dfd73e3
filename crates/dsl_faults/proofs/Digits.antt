-- Numbers of digits, one digit after the other.
use Rattle.std.proofs.Common.{◌≡◌, ℕ, zero, suc, ◌+◌, ◌*◌, ◌<◌, Bool, true, false, cond, List, [], ◌∷◌, length, take, get_or, refl, sym, ap, ◌∙◌, arith, add-one, min}
use Rattle.std.specs.Prelude.{filter, fold}
use Rattle.std.specs.Char.{is_ascii_digit, digit_value}
use Rattle.language_model.specs.Building.{digits_number}

abbrev pub spelled : List ℕ → ℕ
spelled text = digits_number (filter is_ascii_digit text)

abbrev pub with_character : ℕ → ℕ → ℕ
with_character n c = cond (is_ascii_digit c) (10 * n + digit_value c) n

fold_filter : (n : ℕ) (xs : List ℕ) → fold (λ n d. 10 * n + digit_value d) n (filter is_ascii_digit xs) ≡ fold with_character n xs
fold_filter n [] = refl
fold_filter n (x ∷ xs) = go (is_ascii_digit x) (fold_filter (10 * n + digit_value x) xs) (fold_filter n xs)
  where
    go : (b : Bool) → fold (λ n d. 10 * n + digit_value d) (10 * n + digit_value x) (filter is_ascii_digit xs) ≡ fold with_character (10 * n + digit_value x) xs →
        fold (λ n d. 10 * n + digit_value d) n (filter is_ascii_digit xs) ≡ fold with_character n xs →
        fold (λ n d. 10 * n + digit_value d) n (cond b (x ∷ filter is_ascii_digit xs) (filter is_ascii_digit xs)) ≡ fold with_character (cond b (10 * n + digit_value x) n) xs
    go true e f = e
    go false e f = f

folded_more : (n : ℕ) (xs : List ℕ) (i : ℕ) → i < length xs → fold with_character n (take (suc i) xs) ≡ with_character (fold with_character n (take i xs)) (get_or xs i 0)
folded_more n [] i lt = absurd (omega arith)
folded_more n (x ∷ xs) zero lt = refl
folded_more n (x ∷ xs) (suc i) lt = folded_more (with_character n x) xs i (omega arith)

pub spelled_more : (xs : List ℕ) (i : ℕ) → i < length xs → spelled (take (i + 1) xs) ≡ with_character (spelled (take i xs)) (get_or xs i 0)
spelled_more xs i lt =
    ap (λ k. spelled (take k xs)) (add-one i) ∙ fold_filter 0 (take (suc i) xs) ∙ folded_more 0 xs i lt
    ∙ ap (λ n. with_character n (get_or xs i 0)) (sym (fold_filter 0 (take i xs)))

pub capped : (n d : ℕ) → min 1000001 (10 * min 1000001 n + d) ≡ min 1000001 (10 * n + d)
capped n d = omega arith
