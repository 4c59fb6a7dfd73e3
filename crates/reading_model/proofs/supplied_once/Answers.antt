use Rattle.reading_model.proofs.Few.{supplied_once}
use Rattle.reading_model.proofs.supplied_once.Goals as goal

pub returns : goal.returns
returns c = supplied_once
