use Rattle.std.proofs.Common.{ap, sym, ◌∙◌, ◌++◌, arith}
use Rattle.cursor_model.proofs.Numerals.{numeral_is_decimal}
use Rattle.tree_cursor.proofs.writing.append_number.Goals as goal

pub returns-clause-ok : goal.returns-clause-ok
returns-clause-ok c =
    c.in_ok-extend_from_slice.ensures.items ∙ ap (λ l. c.args.out.now.items ++ l) (c.as_bytes.ensures.value ∙ c.format.ensures.text ∙ sym (numeral_is_decimal c.args.number (omega (arith, c.ranges.number.fits))))
