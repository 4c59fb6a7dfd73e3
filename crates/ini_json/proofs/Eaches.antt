-- A text of which each character is written, one character further.
use Rattle.std.proofs.Common.{◌≡◌, ℕ, List, [], ◌∷◌, ◌++◌, length, sym, ap, ◌∙◌, arith, append_assoc, append-nil}
use Rattle.std.specs.Str.{chars, IsUtf8}
use Rattle.std.specs.Char.{encode_utf8}
use Rattle.std.specs.List.{flat_map}
use Rattle.std.proofs.lemmas.Str.{chars_past_char, chars-nil}

pub each_step : (f : ℕ → List ℕ) (bytes rest out out' whole : List ℕ) (c : ℕ) → IsUtf8 bytes → bytes ≡ encode_utf8 c ++ rest → out' ≡ out ++ f c → out ++ flat_map f (chars bytes) ≡ whole → out' ++ flat_map f (chars rest) ≡ whole
each_step f bytes rest out out' whole c utf8 e step w =
    ap (λ b. b ++ flat_map f (chars rest)) step ∙ append_assoc out (f c) (flat_map f (chars rest)) ∙ ap (λ cs. out ++ flat_map f cs) (sym (chars_past_char bytes rest c utf8 e)) ∙ w

pub each_end : (f : ℕ → List ℕ) (bytes out whole : List ℕ) → length bytes ≡ 0 → out ++ flat_map f (chars bytes) ≡ whole → out ≡ whole
each_end f [] out whole e w = sym (append-nil out) ∙ ap (λ cs. out ++ flat_map f cs) (sym chars-nil) ∙ w
each_end f (b ∷ bytes) out whole e w = absurd (omega arith)
