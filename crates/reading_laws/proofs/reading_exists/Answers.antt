use Rattle.reading_laws.proofs.Reading.{reading_exists}
use Rattle.reading_laws.proofs.reading_exists.Goals as goal

pub returns : goal.returns
returns c = reading_exists
