use Rattle.forest_laws.proofs.Few.{steps_are_few}
use Rattle.forest_laws.proofs.steps_are_few.Goals as goal

pub returns : goal.returns
returns c = steps_are_few
