use Rattle.std.proofs.Common.{◌∙◌, sym, ap, eq-eqb, ◌+◌}
use Rattle.std.specs.Char.{is_ascii_hexdigit}
use Rattle.language_model.specs.Classes.{one_or_bad}
use Rattle.char_class.proofs.HexLemmas.{prefix_passes, braced}
use Rattle.char_class.proofs.escape.hex_piece.Goals as goal

pub hex_number-requires-clause-hex : goal.hex_number-requires-clause-hex
hex_number-requires-clause-hex c = λ k h. prefix_passes is_ascii_hexdigit _ c.hex_len-len.result k c.hex_len-len.ensures.value h

pub returns-then-char_at-eq125-clause-value : goal.returns-then-char_at-eq125-clause-value
returns-then-char_at-eq125-clause-value c = c.one_or_bad.ensures ∙ ap (λ n. one_or_bad n (4 + c.hex_len-len.result)) c.hex_number.ensures ∙ sym (braced c.args.text.now c.hex_len-len.result c.hex_len-len.ensures.value (eq-eqb _ _ (sym c.char_at.ensures ∙ c.if-char_at-eq123.true)) c.if-len-gt0.true c.if-len-le6.true (eq-eqb _ _ (sym c.char_at-then-len-le6.ensures ∙ c.if-char_at-eq125.true)))
