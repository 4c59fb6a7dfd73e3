use Rattle.value_text.proofs.Rest.{extended_through}
use Rattle.std.proofs.lemmas.Result.{IfOk-from_err}
use Rattle.value_text.proofs.text.append_escaped.Goals as goal

pub returns-clause-extended : goal.returns-clause-extended
returns-clause-extended c = extended_through _ _ _ c.append.ensures.extended c.append_escape.ensures.extended

pub returns-in_err-append-clause-ok : goal.returns-in_err-append-clause-ok
returns-in_err-append-clause-ok c = IfOk-from_err _ _ c.from_residual.ensures.0
