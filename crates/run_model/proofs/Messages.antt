-- Messages whose text has nothing to escape.
use Rattle.std.proofs.Common.{◌≡◌, ℕ, zero, suc, ◌<◌, ◌≤◌, ◌&&◌, Bool, true, List, [], ◌∷◌, ◌++◌, refl, ap, ◌∙◌, chars, arith}
use Rattle.std.specs.Prelude.{codes, nat_le, nat_lt, flat_map}
use Rattle.std.specs.Str.{IsAscii}
use Rattle.std.specs.Str.Lossy.{utf8_lossy}
use Rattle.std.proofs.lemmas.Str.{IsUtf8-from_ascii, utf8_lossy-IsUtf8, chars-IsAscii, encode_ascii}
use Rattle.std.proofs.lemmas.Str.Ascii.{IsAscii-nil}
use Rattle.std.proofs.lemmas.Bool.{and_parts}
use Rattle.run_model.specs.Telling.{message, in_line}

abbrev pub is_plain : ℕ → Bool
is_plain c = nat_le 32 c && nat_lt c 127

abbrev pub are_plain : List ℕ → Bool
are_plain [] = true
are_plain (c ∷ cs) = is_plain c && are_plain cs

in_range : (c : ℕ) → is_plain c ≡ true → (32 ≤ c) × (c < 127)
in_range c e = grind (arith, e)

ascii : (text : List ℕ) → are_plain text ≡ true → IsAscii text
ascii [] e i = IsAscii-nil i
ascii (c ∷ cs) e zero = let r = (in_range c (and_parts (is_plain c) (are_plain cs) e).0).1 in omega (arith, r)
ascii (c ∷ cs) e (suc i) = ascii cs (and_parts (is_plain c) (are_plain cs) e).1 i

one : (c : ℕ) → is_plain c ≡ true → in_line c ≡ c ∷ []
one c e = let r = in_range c e in let code = encode_ascii c (omega (arith, r.1)) in grind (arith, r, code)

same : (text : List ℕ) → are_plain text ≡ true → flat_map in_line text ≡ text
same [] e = refl
same (c ∷ cs) e = let b = and_parts (is_plain c) (are_plain cs) e in ap (λ l. l ++ flat_map in_line cs) (one c b.0) ∙ ap (λ l. c ∷ l) (same cs b.1)

pub plain_message : (text : List ℕ) → are_plain text ≡ true → message text ≡ codes "slif: " ++ (text ++ 10 ∷ [])
plain_message text e =
    let a = ascii text e in
    let shown : flat_map in_line (chars (utf8_lossy text)) ≡ text =
    ap (λ l. flat_map in_line (chars l)) (utf8_lossy-IsUtf8 text (IsUtf8-from_ascii text a)) ∙ ap (flat_map in_line) (chars-IsAscii text a) ∙ same text e in
    ap (λ l. codes "slif: " ++ (l ++ 10 ∷ [])) shown
