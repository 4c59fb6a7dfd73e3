-- What is shown of a text, and what is still to be shown.
use Rattle.std.proofs.Common.{◌≡◌, ◌≢◌, ℕ, suc, ◌-◌, List, [], ◌∷◌, ◌++◌, length, sym, ap, ◌∙◌, arith, append_assoc, append-nil, codes}
use Rattle.std.specs.Str.{chars, IsUtf8}
use Rattle.std.specs.Char.{encode_utf8}
use Rattle.std.proofs.lemmas.Str.{chars_past_char, chars-nil}
use Rattle.slif_glades.specs.Pieces.{shown, shown_char}

pub shown_step : (left : ℕ) (bytes rest out out' whole : List ℕ) (c : ℕ) → IsUtf8 bytes → bytes ≡ encode_utf8 c ++ rest → left ≢ 0 → out' ≡ out ++ shown_char c → out ++ shown left (chars bytes) ≡ whole
    → out' ++ shown (left - 1) (chars rest) ≡ whole
shown_step left bytes rest out out' whole c utf8 e some step w =
    let index : left ≡ suc (left - 1) = omega arith in
    let all : shown left (chars bytes) ≡ shown_char c ++ shown (left - 1) (chars rest) = ap (λ (n : ℕ). shown n (chars bytes)) index ∙ ap (shown (suc (left - 1))) (chars_past_char bytes rest c utf8 e) in
    ap (λ b. b ++ shown (left - 1) (chars rest)) step ∙ append_assoc out (shown_char c) (shown (left - 1) (chars rest)) ∙ ap (λ b. out ++ b) (sym all) ∙ w

pub shown_stops : (left : ℕ) (bytes rest out whole : List ℕ) (c : ℕ) → IsUtf8 bytes → bytes ≡ encode_utf8 c ++ rest → left ≡ 0 → out ++ shown left (chars bytes) ≡ whole → out ++ codes ".." ≡ whole
shown_stops left bytes rest out whole c utf8 e none w =
    ap (λ b. out ++ b) (sym (ap (λ (n : ℕ). shown n (chars bytes)) none ∙ ap (shown 0) (chars_past_char bytes rest c utf8 e))) ∙ w

pub shown_end : (left : ℕ) (bytes out whole : List ℕ) → length bytes ≡ 0 → out ++ shown left (chars bytes) ≡ whole → out ≡ whole
shown_end left [] out whole e w = sym (append-nil out) ∙ ap (λ cs. out ++ shown left cs) (sym chars-nil) ∙ w
shown_end left (b ∷ bytes) out whole e w = absurd (omega arith)
