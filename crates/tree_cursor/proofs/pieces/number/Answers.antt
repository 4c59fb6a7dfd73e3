use Rattle.std.proofs.Common.{◌≡◌, true, false, sym, ap, ◌∙◌, arith}
use Rattle.std.proofs.lemmas.Fmt.{parse-decimal}
use Rattle.cursor_model.specs.Cursor.{numeral}
use Rattle.cursor_model.proofs.Numerals.{numeral_is_decimal}
use Rattle.tree_cursor.proofs.pieces.number.Goals as goal

pub returns-in_default-clause-none : goal.returns-in_default-clause-none
returns-in_default-clause-none c = λ none n small e.
    let r = parse-decimal 32 n c.args.text.now c.parse.result (omega (arith, small)) (omega (arith, small)) (e ∙ numeral_is_decimal n (omega (arith, small))) c.parse.ensures.value.0 in
    let is = c.in-Ok.is in
    let same : c.in-Ok.number ≡ n = cc in
    let bad : true ≡ false = sym (c.is_written.ensures.1 (e ∙ ap numeral (sym same))) ∙ c.if-is_written.false in
    cc

pub returns-in_default-2-clause-none : goal.returns-in_default-2-clause-none
returns-in_default-2-clause-none c = λ none n small e.
    let r = parse-decimal 32 n c.args.text.now c.parse.result (omega (arith, small)) (omega (arith, small)) (e ∙ numeral_is_decimal n (omega (arith, small))) c.parse.ensures.value.0 in
    let is = c.in_default.is in
    cc
