use Rattle.number_laws.proofs.Counted.{counts_exist}
use Rattle.number_laws.proofs.counts_exist.Goals as goal

pub returns : goal.returns
returns c = counts_exist
