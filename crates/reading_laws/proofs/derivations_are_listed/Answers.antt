use Rattle.reading_laws.proofs.Lists.{derivations_listed}
use Rattle.reading_laws.proofs.derivations_are_listed.Goals as goal

pub returns : goal.returns
returns c = derivations_listed
