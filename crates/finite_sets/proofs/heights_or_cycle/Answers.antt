use Rattle.finite_sets.proofs.Numbers.{heights_or_cycle}
use Rattle.finite_sets.proofs.heights_or_cycle.Goals as goal

pub returns : goal.returns
returns c = heights_or_cycle
