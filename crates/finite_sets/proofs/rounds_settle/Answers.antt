use Rattle.finite_sets.proofs.Numbers.{rounds_settle}
use Rattle.finite_sets.proofs.rounds_settle.Goals as goal

pub returns : goal.returns
returns c = rounds_settle
