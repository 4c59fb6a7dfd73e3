use Rattle.number_laws.proofs.Counted.{counts_are_one}
use Rattle.number_laws.proofs.counts_are_one.Goals as goal

pub returns : goal.returns
returns c = counts_are_one
