use Rattle.std.proofs.lemmas.Result.{IfOk-from_err}
use Rattle.forest_parts.proofs.chains.widen.Goals as goal

pub returns-in_err-push-clause-same : goal.returns-in_err-push-clause-same
returns-in_err-push-clause-same c = IfOk-from_err _ _ c.from_residual.ensures.0

pub returns-in_err-push-clause-wide : goal.returns-in_err-push-clause-wide
returns-in_err-push-clause-wide c = IfOk-from_err _ _ c.from_residual.ensures.0

pub returns-clause-same : goal.returns-clause-same
returns-clause-same c = c.loop-k.invariant.same
