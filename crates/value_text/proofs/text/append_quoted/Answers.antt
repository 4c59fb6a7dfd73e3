use Rattle.std.proofs.lemmas.Result.{on_ok_weaker}
use Rattle.value_text.proofs.Rest.{quoted_whole, extended_through}
use Rattle.std.proofs.lemmas.Result.{IfOk-from_err}
use Rattle.value_text.proofs.text.append_quoted.Goals as goal

pub returns-clause-ok : goal.returns-clause-ok
returns-clause-ok c = on_ok_weaker c.append_byte-2.result (λ last. quoted_whole _ _ _ _ c.args.text.now c.in_ok-append_byte.ensures.ok c.in_ok-append_inside.ensures.ok last) c.append_byte-2.ensures.ok

pub returns-in_err-append_inside-clause-extended : goal.returns-in_err-append_inside-clause-extended
returns-in_err-append_inside-clause-extended c = extended_through _ _ _ c.append_byte.ensures.extended c.append_inside.ensures.extended

pub returns-clause-extended : goal.returns-clause-extended
returns-clause-extended c = extended_through _ _ _ (extended_through _ _ _ c.append_byte.ensures.extended c.append_inside.ensures.extended) c.append_byte-2.ensures.extended

pub returns-in_err-append_byte-clause-ok : goal.returns-in_err-append_byte-clause-ok
returns-in_err-append_byte-clause-ok c = IfOk-from_err _ _ c.from_residual.ensures.0

pub returns-in_err-append_inside-clause-ok : goal.returns-in_err-append_inside-clause-ok
returns-in_err-append_inside-clause-ok c = IfOk-from_err _ _ c.from_residual-in_err-append_inside.ensures.0
