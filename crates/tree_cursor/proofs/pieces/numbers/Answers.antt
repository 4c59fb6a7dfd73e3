use Rattle.std.proofs.Common.{refl}
use Rattle.tree_cursor.proofs.Letters.{cut_told}
use Rattle.tree_cursor.proofs.pieces.numbers.Goals as goal

pub returns-in_err-number-clause-none : goal.returns-in_err-number-clause-none
returns-in_err-number-clause-none c = λ none m n small smaller is.
    c.in_err-number.ensures.none refl m small (cut_told c.args.text.now c.in_ok-first.first.now c.in_ok-first.second.now m n c.in_ok-first.ensures.some is).first

pub returns-in_err-number-2-clause-none : goal.returns-in_err-number-2-clause-none
returns-in_err-number-2-clause-none c = λ none m n small smaller is.
    c.in_err-number-2.ensures.none refl n smaller (cut_told c.args.text.now c.in_ok-first.first.now c.in_ok-first.second.now m n c.in_ok-first.ensures.some is).second
