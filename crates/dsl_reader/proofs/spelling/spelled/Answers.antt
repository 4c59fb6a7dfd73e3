use Rattle.std.proofs.Common.{◌≡◌, ◌∙◌, sym, ap, encode_utf8_all, string_bytes, ℕ, List, false}
use Rattle.std.specs.List.{slice_range}
use Rattle.language_model.specs.declared.token.TokenKind.{TokenKind}
use Rattle.language_model.specs.Tokens.{Spelled, spaced, content_of}
use Rattle.dsl_reader.proofs.SpacedLemmas.{content_plain, inner_is}
use Rattle.dsl_reader.proofs.spelling.spelled.Goals as goal
use Rattle.dsl_reader.proofs.spelling.spelled.Goals.{in-Angle+in_ok-content-in-Angle, in_default+in_ok-content-in_default}

same_content : (k : TokenKind) (c d : List ℕ) (at : ℕ) → c ≡ d → (let t : Spelled = record { kind = k; content = c; at = at } in t) ≡ record { kind = k; content = d; at = at }
same_content k c d at e = cc

pub returns : goal.returns
returns c =
    let content : string_bytes c.match-token.content ≡ encode_utf8_all (content_of c.args.token.kind (slice_range c.args.chars.now c.args.token.from c.args.token.to)) =
    elim c.match-token.branch [ in-Angle+in_ok-content-in-Angle w ↦ ap string_bytes w.content-is ∙ w.in_ok-content-in-Angle.ensures ∙ ap encode_utf8_all (ap (λ l. spaced l false false) (w.text.ensures.characters ∙ sym (inner_is c.args.chars.now c.args.token.from c.args.token.to (c.requires.ends w.in-Angle.is) c.requires.within)) ∙ ap (λ k. content_of k (slice_range c.args.chars.now c.args.token.from c.args.token.to)) (sym w.in-Angle.is)) | in_default+in_ok-content-in_default w ↦ ap string_bytes w.content-is ∙ w.in_ok-content-in_default.ensures.ok ∙ w.text-in_default.ensures.bytes ∙ ap encode_utf8_all (sym (content_plain c.args.token.kind (slice_range c.args.chars.now c.args.token.from c.args.token.to) w.in_default.not-Angle)) ] in
    same_content c.args.token.kind _ _ c.args.token.from content
