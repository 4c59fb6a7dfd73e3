use Rattle.std.proofs.Common.{refl}
use Rattle.std.proofs.lemmas.Result.{err_from_is_err_and}
use Rattle.calculator.specs.Expressions.{OfDerivations}
use Rattle.calculator.proofs.value_of_reading.Goals as goal

pub returns-in_err-forest-clause-fault : goal.returns-in_err-forest-clause-fault
returns-in_err-forest-clause-fault c =
    let p = err_from_is_err_and c.from_residual.result c.from_residual.ensures.1 in
    rw (p.1, p.2) (OfDerivations _ refl c.in_err-forest.ensures.refused)
