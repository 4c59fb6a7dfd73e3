use Rattle.std.proofs.lemmas.Result.{IfOk-from_err}
use Rattle.bocage.proofs.ends.forget.Goals as goal

pub returns-in_err-push-clause-long : goal.returns-in_err-push-clause-long
returns-in_err-push-clause-long c = IfOk-from_err _ _ c.from_residual.ensures.0

pub returns-in_err-push-clause-none : goal.returns-in_err-push-clause-none
returns-in_err-push-clause-none c = IfOk-from_err _ _ c.from_residual.ensures.0

pub returns-clause-none : goal.returns-clause-none
returns-clause-none c = c.loop-k.invariant.none
