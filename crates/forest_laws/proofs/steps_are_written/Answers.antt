use Rattle.forest_laws.proofs.Written.{steps_are_written}
use Rattle.forest_laws.proofs.steps_are_written.Goals as goal

pub returns : goal.returns
returns c = steps_are_written
