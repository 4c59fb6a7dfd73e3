use Rattle.tree_cursor.proofs.Letters.{told_apart}
use Rattle.tree_cursor.proofs.pieces.step_told.Goals as goal

pub returns-in_err-strip_prefix-clause-none : goal.returns-in_err-strip_prefix-clause-none
unfolding lib.Utf8.encode
returns-in_err-strip_prefix-clause-none c = λ none step small e.
    told_apart c.args.piece.now step small e
    (λ rest is n within same. c.in_default.ensures.cases rest is)
    (λ rest is n within same. c.in_default-strip_prefix.ensures.cases rest is)
    (λ rest is m n within fits same. c.in_err-strip_prefix.ensures.cases rest is)
