use Rattle.std.proofs.Common.{refl, subst}
use Rattle.declared_names.specs.Order.{IsFaultIn, OfDerivations, OfNames}
use Rattle.declared_names.proofs.order.look_at_reading.Goals as goal

pub returns-in-Err-looked-clause-err : goal.returns-in-Err-looked-clause-err
returns-in-Err-looked-clause-err c =
    OfNames c.in-Err-looked.fault (subst (λ r. IsFaultIn r c.in-Err-looked.fault) c.in-Ok.ensures.forest.read_is c.in-Err-looked.ensures.err) c.placed.ensures

pub returns-in-Err-clause-err : goal.returns-in-Err-clause-err
returns-in-Err-clause-err c = OfDerivations c.in-Err.error refl c.in-Err.ensures.refused
