-- What is written of a message and what is still to be written.
use Rattle.std.proofs.Common.{◌≡◌, ℕ, List, [], ◌∷◌, ◌++◌, length, sym, ap, ◌∙◌, arith, append_assoc, append-nil}
use Rattle.std.specs.Str.{chars, IsUtf8}
use Rattle.std.specs.Char.{encode_utf8}
use Rattle.std.specs.List.{flat_map}
use Rattle.std.proofs.lemmas.Str.{chars_past_char, chars-nil}
use Rattle.run_model.specs.Telling.{in_line}

abbrev pub shown_rest : List ℕ → List ℕ
shown_rest bytes = flat_map in_line (chars bytes)

pub shown_step : (bytes rest out out' whole : List ℕ) (c : ℕ) → IsUtf8 bytes → bytes ≡ encode_utf8 c ++ rest → out' ≡ out ++ in_line c → out ++ shown_rest bytes ≡ whole → out' ++ shown_rest rest ≡ whole
shown_step bytes rest out out' whole c utf8 e step w =
    ap (λ b. b ++ shown_rest rest) step ∙ append_assoc out (in_line c) (shown_rest rest) ∙ ap (λ b. out ++ b) (sym (ap (flat_map in_line) (chars_past_char bytes rest c utf8 e))) ∙ w

pub shown_end : (bytes out whole : List ℕ) → length bytes ≡ 0 → out ++ shown_rest bytes ≡ whole → out ≡ whole
shown_end [] out whole e w = sym (append-nil out) ∙ ap (λ cs. out ++ flat_map in_line cs) (sym chars-nil) ∙ w
shown_end (b ∷ bytes) out whole e w = absurd (omega arith)
