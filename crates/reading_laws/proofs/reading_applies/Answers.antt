use Rattle.reading_laws.proofs.Applied.{reading_applies}
use Rattle.reading_laws.proofs.reading_applies.Goals as goal

pub returns : goal.returns
returns c = reading_applies
