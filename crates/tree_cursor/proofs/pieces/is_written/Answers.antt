use Rattle.std.proofs.Common.{◌≡◌, sym, ◌∙◌, arith}
use Rattle.std.proofs.lemmas.Slice.Eq.{bytes_eq-Decides}
use Rattle.cursor_model.specs.Cursor.{numeral}
use Rattle.cursor_model.proofs.Numerals.{numeral_is_decimal}
use Rattle.tree_cursor.proofs.pieces.is_written.Goals as goal

pub returns : goal.returns
returns c =
    let is : c.format.result.now ≡ numeral c.args.number = c.format.ensures.text ∙ sym (numeral_is_decimal c.args.number (omega (arith, c.ranges.number.fits))) in
    let d = bytes_eq-Decides c.format.result.now c.args.text.now in
    ((λ e. sym (d.0 (sym c.eq.ensures ∙ e)) ∙ is), (λ e. c.eq.ensures ∙ d.1 (is ∙ sym e)))
