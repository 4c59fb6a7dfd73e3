use Rattle.std.proofs.Common.{arith, codes}
use Rattle.tree_text.proofs.Words.{word_first, word_next, undef_last}
use Rattle.tree_text.proofs.read.behind_undef.Goals as goal

pub returns-in_err-rest : goal.returns-in_err-rest
returns-in_err-rest c = rw c.from_residual.ensures (word_first _ 117 (codes "ndef") (omega arith) c.in_err-rest.ensures)

pub returns-in_err-rest-2 : goal.returns-in_err-rest-2
returns-in_err-rest-2 c =
    rw c.from_residual-in_err-rest-2.ensures (word_next _ _ 117 (codes "ndef") (omega arith) c.in_ok-rest.ensures (word_first _ 110 (codes "def") (omega arith) c.in_err-rest-2.ensures))

pub returns-in_err-rest-3 : goal.returns-in_err-rest-3
returns-in_err-rest-3 c =
    rw c.from_residual-in_err-rest-3.ensures (word_next _ _ 117 (codes "ndef") (omega arith) c.in_ok-rest.ensures (word_next _ _ 110 (codes "def") (omega arith) c.in_ok-rest-2.ensures (word_first _ 100 (codes "ef") (omega arith) c.in_err-rest-3.ensures)))

pub returns-in_err-rest-4 : goal.returns-in_err-rest-4
returns-in_err-rest-4 c =
    rw c.from_residual-in_err-rest-4.ensures
    (word_next _ _ 117 (codes "ndef") (omega arith) c.in_ok-rest.ensures (word_next _ _ 110 (codes "def") (omega arith) c.in_ok-rest-2.ensures (word_next _ _ 100 (codes "ef") (omega arith) c.in_ok-rest-3.ensures (word_first _ 101 (codes "f") (omega arith) c.in_err-rest-4.ensures))))

pub returns : goal.returns
returns c = undef_last _ _ _ _ _ c.behind-5.result c.in_ok-rest.ensures c.in_ok-rest-2.ensures c.in_ok-rest-3.ensures c.in_ok-rest-4.ensures c.behind-5.ensures
