use Rattle.std.proofs.lemmas.Result.{IfOk-from_err}
use Rattle.valuator.proofs.Grown.{grown_put, grown_kept, grown_through, grown_tried}
use Rattle.valuator.proofs.tree.put_leaf.Goals as goal

pub returns-in_err-name-clause-ok : goal.returns-in_err-name-clause-ok
returns-in_err-name-clause-ok c = IfOk-from_err _ _ c.from_residual.ensures.0

pub returns-in_err-name-clause-grown : goal.returns-in_err-name-clause-grown
returns-in_err-name-clause-grown c = grown_kept _ _ c.in_err-name.ensures.err

pub returns-in_err-text-clause-ok : goal.returns-in_err-text-clause-ok
returns-in_err-text-clause-ok c = IfOk-from_err _ _ c.from_residual-in_err-text.ensures.0

pub returns-in_err-text-clause-grown : goal.returns-in_err-text-clause-grown
returns-in_err-text-clause-grown c = grown_through _ _ _ (grown_put _ _ _ _ c.in_ok-name.ensures.ok) (grown_kept _ _ c.in_err-text.ensures.err)

pub returns-clause-grown : goal.returns-clause-grown
returns-clause-grown c =
    grown_through _ _ _ (grown_through _ _ _ (grown_put _ _ _ _ c.in_ok-name.ensures.ok) (grown_put _ _ _ _ c.in_ok-text.ensures.ok)) (grown_tried _ _ _ c.list.result c.list.ensures.ok c.list.ensures.err)
