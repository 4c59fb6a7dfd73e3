-- The text of a token, one character further.
use Rattle.std.proofs.Common.{◌≡◌, ◌∙◌, sym, ap, refl, ℕ, ◌+◌, ◌-◌, ◌≤◌, Bool, true, false, ◌&&◌, List, [], ◌∷◌, ◌++◌, length, drop, take, suc, zero, arith, append_assoc, append-nil, encode_utf8_all, IsUtf8}
use Rattle.std.specs.Prelude.{if◌then◌else◌}
use Rattle.std.specs.Str.{chars}
use Rattle.std.specs.Char.{encode_utf8}
use Rattle.std.specs.List.{slice_range}
use Rattle.std.proofs.lemmas.Str.{chars_past_char, chars-nil, encodes-append}
use Rattle.std.proofs.lemmas.List.{length-take-le, length-drop, take-take}
use Rattle.unicode.specs.Binary.{is_white_space}
use Rattle.language_model.specs.declared.token.TokenKind.{TokenKind}
use Rattle.language_model.specs.declared.token.TokenKind.TheVariants.{Word, Angle, Quote, Bracket, Pseudo, Reserved, Signed, Mark}
use Rattle.language_model.specs.Tokens.{spaced, content_of}

white_spaced : (c : ℕ) (cs : List ℕ) (s p : Bool) → is_white_space c ≡ true → spaced (c ∷ cs) s p ≡ spaced cs s true
white_spaced c cs s p h = rw h refl

pub white_step : (bytes rest out whole : List ℕ) (c : ℕ) (s p : Bool) → IsUtf8 bytes → bytes ≡ encode_utf8 c ++ rest → is_white_space c ≡ true
    → out ++ encode_utf8_all (spaced (chars bytes) s p) ≡ whole → out ++ encode_utf8_all (spaced (chars rest) s true) ≡ whole
white_step bytes rest out whole c s p utf8 e h w =
    ap (λ l. out ++ encode_utf8_all l) (sym (white_spaced c (chars rest) s p h)) ∙ ap (λ cs. out ++ encode_utf8_all (spaced cs s p)) (sym (chars_past_char bytes rest c utf8 e)) ∙ w

abbrev pub prefix : Bool → ℕ → List ℕ
prefix space c = if space then 32 ∷ c ∷ [] else c ∷ []

by_space : (b : Bool) (c : ℕ) (cs : List ℕ) → (if b then 32 ∷ c ∷ cs else c ∷ cs) ≡ prefix b c ++ cs
by_space true c cs = refl
by_space false c cs = refl

other_spaced : (c : ℕ) (cs : List ℕ) (s p : Bool) → is_white_space c ≡ false → spaced (c ∷ cs) s p ≡ prefix (s && p) c ++ spaced cs true false
other_spaced c cs s p h = rw h (by_space (s && p) c (spaced cs true false))

pub other_step : (bytes rest out out' whole : List ℕ) (c : ℕ) (s p b : Bool) → IsUtf8 bytes → bytes ≡ encode_utf8 c ++ rest → is_white_space c ≡ false → b ≡ (s && p) → out' ≡ out ++ encode_utf8_all (prefix b c)
    → out ++ encode_utf8_all (spaced (chars bytes) s p) ≡ whole → out' ++ encode_utf8_all (spaced (chars rest) true false) ≡ whole
other_step bytes rest out out' whole c s p b utf8 e h space made w =
    ap (λ l. l ++ encode_utf8_all (spaced (chars rest) true false)) made ∙ append_assoc out (encode_utf8_all (prefix b c)) (encode_utf8_all (spaced (chars rest) true false))
    ∙ ap (λ l. out ++ l) (sym (encodes-append (prefix b c) (spaced (chars rest) true false)))
    ∙ ap (λ d. out ++ encode_utf8_all (prefix d c ++ spaced (chars rest) true false)) space
    ∙ ap (λ l. out ++ encode_utf8_all l) (sym (other_spaced c (chars rest) s p h)) ∙ ap (λ cs. out ++ encode_utf8_all (spaced cs s p)) (sym (chars_past_char bytes rest c utf8 e)) ∙ w

pub spaced_end : (bytes out whole : List ℕ) (s p : Bool) → length bytes ≡ 0 → out ++ encode_utf8_all (spaced (chars bytes) s p) ≡ whole → out ≡ whole
spaced_end [] out whole s p h w = sym (append-nil out) ∙ ap (λ cs. out ++ encode_utf8_all (spaced cs s p)) (sym chars-nil) ∙ w
spaced_end (b ∷ bytes) out whole s p h w = absurd (omega arith)

pub content_plain : (k : TokenKind) (text : List ℕ) → (k ≡ Angle → ⊥) → content_of k text ≡ text
content_plain Angle text h = absurd (h refl)
content_plain Word text h = refl
content_plain Quote text h = refl
content_plain Bracket text h = refl
content_plain Pseudo text h = refl
content_plain Reserved text h = refl
content_plain Signed text h = refl
content_plain Mark text h = refl

drop_one : (n : ℕ) (xs : List ℕ) → drop 1 (take (suc n) xs) ≡ take n (drop 1 xs)
drop_one zero [] = refl
drop_one (suc n) [] = refl
drop_one n (x ∷ xs) = refl

drop_behind : (i : ℕ) (xs : List ℕ) → drop 1 (drop i xs) ≡ drop (suc i) xs
drop_behind zero xs = refl
drop_behind (suc i) [] = refl
drop_behind (suc i) (x ∷ xs) = drop_behind i xs

-- the text between the ends of an angle
pub inner_is : (text : List ℕ) (from to : ℕ) → from + 2 ≤ to → to ≤ length text → take (length (slice_range text from to) - 2) (drop 1 (slice_range text from to)) ≡ slice_range text (from + 1) (to - 1)
inner_is text from to h l =
    let long : length (slice_range text from to) ≡ to - from = length-take-le (to - from) (drop from text) (omega (arith, length-drop from text)) in
    let n = to - 1 - (from + 1) in
    let first : length (slice_range text from to) - 2 ≡ n = omega (arith, long) in
    let second : to - from ≡ suc (suc n) = omega arith in
    let third : from + 1 ≡ suc from = omega arith in
    (λ i. take (first i) (drop 1 (take (second i) (drop from text))))
    ∙ ap (take n) (drop_one (suc n) (drop from text)) ∙ take-take n (suc n) (drop 1 (drop from text)) (omega arith)
    ∙ ap (take n) (drop_behind from text) ∙ ap (λ k. take n (drop k text)) (sym third)
