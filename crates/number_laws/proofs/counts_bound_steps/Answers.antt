use Rattle.number_laws.proofs.Counted.{counts_bound_steps}
use Rattle.number_laws.proofs.counts_bound_steps.Goals as goal

pub returns : goal.returns
returns c = counts_bound_steps
