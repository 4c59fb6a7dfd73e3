use Rattle.words_model.proofs.Asked.{asks_once}
use Rattle.words_model.proofs.one_job.Goals as goal

pub returns : goal.returns
returns c = asks_once
