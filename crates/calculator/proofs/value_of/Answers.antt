use Rattle.std.proofs.Common.{[], refl, subst}
use Rattle.std.proofs.lemmas.Result.{IfErr-weaker, err_from_is_err_and}
use Rattle.text_reading.specs.Refusals.{IsInputRefusedAt}
use Rattle.slif_parser.specs.Errors.{TellsInput}
use Rattle.slif_parser.specs.Readings.{IsReadAs}
use Rattle.calculator.specs.Expressions.{IsFaultOf, IsFaultOfReading, OfInput, OfReading}
use Rattle.calculator.proofs.value_of.Goals as goal

pub returns-in_err-reading-clause-fault : goal.returns-in_err-reading-clause-fault
returns-in_err-reading-clause-fault c =
    let p = err_from_is_err_and c.from_residual.result c.from_residual.ensures.1 in
    rw (p.1, p.2) (OfInput c.in_err-reading.field-0.0 refl (subst (λ bytes. TellsInput (IsInputRefusedAt c.args.grammar.now [] bytes) c.in_err-reading.field-0.0) c.as_bytes.ensures.value c.in_err-reading.ensures.refused))

pub returns-clause-fault : goal.returns-clause-fault
returns-clause-fault c =
    IfErr-weaker c.value_of_reading-value.result (IsFaultOfReading c.in_ok-reading.reading) (IsFaultOf c.args.grammar.now c.args.expression.now)
    (λ e is. OfReading c.in_ok-reading.reading (subst (λ bytes. IsReadAs c.args.grammar.now [] bytes c.in_ok-reading.reading) c.as_bytes.ensures.value c.in_ok-reading.ensures.read) is) c.value_of_reading-value.ensures.fault
