use Rattle.library_tests.proofs.Differing.{left_told, right_told}
use Rattle.library_tests.proofs.cases.current_value.Goals as goal

pub returns-clause-left : goal.returns-clause-left
returns-clause-left c = left_told _ _ _ c.args.derivations.now c.fold.result _ _ c.fold.ensures.value

pub returns-clause-right : goal.returns-clause-right
returns-clause-right c = right_told _ _ _ c.args.derivations.now c.fold.result _ _ c.fold.ensures.value
