use Rattle.std.proofs.lemmas.Result.{IfOk-from_err}
use Rattle.forest_parts.proofs.chains.link.Goals as goal

pub returns-in_err-widen-clause-below : goal.returns-in_err-widen-clause-below
returns-in_err-widen-clause-below c = IfOk-from_err _ _ c.from_residual.ensures.0

pub returns-in_err-widen-clause-sets : goal.returns-in_err-widen-clause-sets
returns-in_err-widen-clause-sets c = IfOk-from_err _ _ c.from_residual.ensures.0

pub returns-in_err-widen-clause-same : goal.returns-in_err-widen-clause-same
returns-in_err-widen-clause-same c = IfOk-from_err _ _ c.from_residual.ensures.0

pub returns-in_err-head-clause-below : goal.returns-in_err-head-clause-below
returns-in_err-head-clause-below c = IfOk-from_err _ _ c.from_residual-in_err-head.ensures.0

pub returns-in_err-head-clause-sets : goal.returns-in_err-head-clause-sets
returns-in_err-head-clause-sets c = IfOk-from_err _ _ c.from_residual-in_err-head.ensures.0

pub returns-in_err-head-clause-same : goal.returns-in_err-head-clause-same
returns-in_err-head-clause-same c = IfOk-from_err _ _ c.from_residual-in_err-head.ensures.0

pub returns-in_err-push-clause-below : goal.returns-in_err-push-clause-below
returns-in_err-push-clause-below c = IfOk-from_err _ _ c.from_residual-in_err-push.ensures.0

pub returns-in_err-push-clause-sets : goal.returns-in_err-push-clause-sets
returns-in_err-push-clause-sets c = IfOk-from_err _ _ c.from_residual-in_err-push.ensures.0

pub returns-in_err-push-clause-same : goal.returns-in_err-push-clause-same
returns-in_err-push-clause-same c = IfOk-from_err _ _ c.from_residual-in_err-push.ensures.0
