use Rattle.reading_laws.proofs.Lists.{starts_listed}
use Rattle.reading_laws.proofs.starts_are_listed.Goals as goal

pub returns : goal.returns
returns c = starts_listed
