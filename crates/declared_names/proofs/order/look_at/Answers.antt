use Rattle.std.proofs.Common.{refl}
use Rattle.std.proofs.lemmas.Result.{IfErr-weaker}
use Rattle.declared_names.specs.Order.{IsStopOf, IsStopOfReading, OfInput, OfReading}
use Rattle.declared_names.proofs.order.look_at.Goals as goal

pub returns-in-Ok-clause-err : goal.returns-in-Ok-clause-err
returns-in-Ok-clause-err c =
    IfErr-weaker c.look_at_reading-looked.result (IsStopOfReading c.in-Ok.reading) (IsStopOf c.args.grammar.now c.args.text.now) (λ stop is. OfReading c.in-Ok.reading c.in-Ok.ensures.read is) c.look_at_reading-looked.ensures.err

pub returns-in-Err-clause-err : goal.returns-in-Err-clause-err
returns-in-Err-clause-err c = OfInput c.in-Err.error refl c.in-Err.ensures.refused
