use Rattle.reading_laws.proofs.Short.{built_are_short}
use Rattle.reading_laws.proofs.built_are_short.Goals as goal

pub returns : goal.returns
returns c = built_are_short
