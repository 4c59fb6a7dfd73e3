use Rattle.std.proofs.lemmas.Result.{IfOk-from_err}
use Rattle.valuator.proofs.array.ArrayTellerTeller.finish.Goals as goal

pub returns-in_err-append_line-clause-line : goal.returns-in_err-append_line-clause-line
returns-in_err-append_line-clause-line c = IfOk-from_err _ _ c.from_residual.ensures.0

pub returns-in_err-append_line-clause-ok : goal.returns-in_err-append_line-clause-ok
returns-in_err-append_line-clause-ok c = IfOk-from_err _ _ c.from_residual.ensures.0
