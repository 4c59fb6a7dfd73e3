-- A quoted text, as far as it is read.
use Rattle.std.proofs.Common.{◌≡◌, ◌≢◌, ℕ, ◌<◌, List, [], ◌∷◌, ◌++◌, length, refl, sym, ap, ◌∙◌, arith, append_assoc, append-nil, length-append, IsUtf8}
use Rattle.std.specs.Str.{chars}
use Rattle.std.specs.Char.{encode_utf8}
use Rattle.std.specs.List.{flat_map}
use Rattle.std.proofs.lemmas.Grind.{flat_map-append}
use Rattle.std.proofs.lemmas.Str.{encodes_same, encodes-chars, encodes-append, chars-nil}
use Rattle.grammar_model.specs.Text.{escaped}
use Rattle.tree_text.specs.Prefixes.{NeverBegins, HasNoCharacter, quoted, IsQuoted}
use Rattle.tree_text.proofs.Escapes.{escaped_same, no_quote, escaped_some}
use lib.Utf8.{encodes}

-- what is left of a quoted text after some of its characters
pub record IsLeft (before rest cs r : List ℕ) : Type 0 where
  pub more : List ℕ
  pub whole : cs ≡ before ++ more
  pub is : rest ≡ quoted more r

pub record Reads (text before rest : List ℕ) : Type 0 where
  pub written : text ≡ flat_map escaped before ++ rest
  pub only : (cs r : List ℕ) → text ≡ quoted cs r → IsLeft before rest cs r

pub begin : (text before : List ℕ) → before ≡ [] → Reads text before text
begin text before none = record {
  written = ap (λ b. flat_map escaped b ++ text) (sym none);
  only = λ cs r is. record { more = cs; whole = ap (λ b. b ++ cs) (sym none); is = is };
}

quoted-cons : (m : ℕ) (ms r : List ℕ) → quoted (m ∷ ms) r ≡ escaped m ++ quoted ms r
quoted-cons m ms r = append_assoc (escaped m) (flat_map escaped ms) (34 ∷ r)

left_by : (before rest left cs r more : List ℕ) (c : ℕ) → rest ≡ escaped c ++ left → cs ≡ before ++ more → rest ≡ quoted more r → IsLeft (before ++ c ∷ []) left cs r
left_by before rest left cs r [] c e whole is = absurd (no_quote c left r (sym e ∙ is))
left_by before rest left cs r (m ∷ ms) c e whole is =
    let same = escaped_same c m left (quoted ms r) (sym e ∙ is ∙ quoted-cons m ms r) in
    record { more = ms; whole = whole ∙ (λ i. before ++ sym same.character i ∷ ms) ∙ sym (append_assoc before (c ∷ []) ms); is = same.rest }

pub next : (text before rest left : List ℕ) (c : ℕ) → Reads text before rest → rest ≡ escaped c ++ left → Reads text (before ++ c ∷ []) left
next text before rest left c reads e = record {
  written =
      reads.written ∙ ap (λ b. flat_map escaped before ++ b) (e ∙ ap (λ b. b ++ left) (sym (append-nil (escaped c))))
      ∙ sym (append_assoc (flat_map escaped before) (flat_map escaped (c ∷ [])) left) ∙ ap (λ b. b ++ left) (sym (flat_map-append escaped before (c ∷ [])));
  only = λ cs r is. let so_far = reads.only cs r is in left_by before rest left cs r so_far.more c e so_far.whole so_far.is;
}

pub chars_push : (bytes more : List ℕ) (c : ℕ) → IsUtf8 bytes → IsUtf8 more → more ≡ bytes ++ encode_utf8 c → chars more ≡ chars bytes ++ c ∷ []
chars_push bytes more c utf8 utf8' e =
    encodes_same (chars more) (chars bytes ++ c ∷ [])
    (encodes-chars more utf8' ∙ e ∙ ap (λ b. bytes ++ b) (sym (append-nil (encode_utf8 c))) ∙ ap (λ b. b ++ encodes (c ∷ [])) (sym (encodes-chars bytes utf8))
    ∙ sym (encodes-append (chars bytes) (c ∷ [])))

pub no_chars : (bytes : List ℕ) → bytes ≡ [] → chars bytes ≡ []
no_chars bytes e = ap chars e ∙ chars-nil

pub shorter : (rest left : List ℕ) (c : ℕ) → rest ≡ escaped c ++ left → length left < length rest
shorter rest left c e = omega (arith, ap length e, length-append (escaped c) left, escaped_some c)

-- no further character is left
none_left : (rest r more : List ℕ) → HasNoCharacter rest → rest ≡ quoted more r → (more ≡ []) × (rest ≡ 34 ∷ r)
none_left rest r [] none is = (refl, is)
none_left rest r (m ∷ ms) none is = absurd (none m (quoted ms r) (is ∙ quoted-cons m ms r))

pub ended : (text before rest left : List ℕ) → Reads text before rest → HasNoCharacter rest → rest ≡ 34 ∷ left → IsQuoted text before left
ended text before rest left reads none e = record {
  is = reads.written ∙ ap (λ b. flat_map escaped before ++ b) e;
  only = λ cs r is.
      let so_far = reads.only cs r is in
      let last = none_left rest r so_far.more none so_far.is in
      let both : 34 ∷ r ≡ 34 ∷ left = sym last.1 ∙ e in
      (so_far.whole ∙ ap (λ b. before ++ b) last.0 ∙ append-nil before, cc);
}

pub not_ended : (text before rest : List ℕ) → Reads text before rest → HasNoCharacter rest → NeverBegins rest (34 ∷ []) → (cs r : List ℕ) → text ≢ quoted cs r
not_ended text before rest reads none never cs r is =
    let so_far = reads.only cs r is in
    never r ((none_left rest r so_far.more none so_far.is).1)
