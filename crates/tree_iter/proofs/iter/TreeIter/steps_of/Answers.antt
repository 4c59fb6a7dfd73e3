use Rattle.std.proofs.lemmas.Result.{IfOk-from_err}
use Rattle.tree_iter.proofs.iter.TreeIter.steps_of.Goals as goal

pub returns-in_err-extend_from_slice-clause-ok : goal.returns-in_err-extend_from_slice-clause-ok
returns-in_err-extend_from_slice-clause-ok c = IfOk-from_err _ _ c.from_residual.ensures.0
