-- Digits in braces.
use Rattle.std.proofs.Common.{◌≡◌, ℕ, ◌+◌, ◌-◌, ◌<◌, ◌≤◌, Bool, true, List, length, take, drop, get_or, refl, sym, ap, subst, ◌∙◌, arith, ◌==◌, slice_index}
use Rattle.std.specs.List.{prefix_len}
use Rattle.std.specs.Char.{is_ascii_hexdigit}
use Rattle.std.proofs.lemmas.List.{get_or-take, length-take, take_rest}
use Rattle.std.proofs.lemmas.List.Sums.{prefix_len_passes}
use Rattle.std.proofs.lemmas.Bool.{lt-ltb, le-leb}
use Rattle.language_model.specs.Classes.{hex_piece, one_or_bad, hex_number}

pub prefix_passes : (p : ℕ → Bool) (xs : List ℕ) (n k : ℕ) → n ≡ prefix_len p xs → k < length (take n xs) → p (get_or (take n xs) k 0) ≡ true
prefix_passes p xs n k same h =
    let below : k < n = omega (arith, length-take n xs) in
    ap p (get_or-take n xs k 0 below) ∙ prefix_len_passes p xs k 0 (omega arith)

pub hex_piece-braced : (text : List ℕ) → (slice_index text 2 == 123) ≡ true → 0 < prefix_len is_ascii_hexdigit (drop 3 text) → prefix_len is_ascii_hexdigit (drop 3 text) ≤ 6 → (slice_index text (3 + prefix_len is_ascii_hexdigit (drop 3 text)) == 125) ≡ true → hex_piece text ≡ one_or_bad (hex_number (take (prefix_len is_ascii_hexdigit (drop 3 text)) (drop 3 text))) (4 + prefix_len is_ascii_hexdigit (drop 3 text))
unfolding hex_piece
hex_piece-braced text opens some few closes = rw (opens, lt-ltb _ _ some, le-leb _ _ few, closes) refl

pub braced : (text : List ℕ) (n : ℕ) → n ≡ prefix_len is_ascii_hexdigit (take (length text - 3) (drop 3 text)) → (slice_index text 2 == 123) ≡ true → 0 < n → n ≤ 6 → (slice_index text (3 + n) == 125) ≡ true → hex_piece text ≡ one_or_bad (hex_number (take n (take (length text - 3) (drop 3 text)))) (4 + n)
braced text n is opens some few closes =
    let P : List ℕ → Type 0 = λ rest. n ≡ prefix_len is_ascii_hexdigit rest → hex_piece text ≡ one_or_bad (hex_number (take n rest)) (4 + n) in
    subst P (sym (take_rest text 3)) (λ same. plain same) is
  where
    plain : n ≡ prefix_len is_ascii_hexdigit (drop 3 text) → hex_piece text ≡ one_or_bad (hex_number (take n (drop 3 text))) (4 + n)
    plain same = subst (λ m. 0 < m → m ≤ 6 → (slice_index text (3 + m) == 125) ≡ true → hex_piece text ≡ one_or_bad (hex_number (take m (drop 3 text))) (4 + m)) (sym same) (hex_piece-braced text opens) some few closes
