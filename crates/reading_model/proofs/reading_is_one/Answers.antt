use Rattle.reading_model.proofs.One.{reading_is_one}
use Rattle.reading_model.proofs.reading_is_one.Goals as goal

pub returns : goal.returns
returns c = reading_is_one
