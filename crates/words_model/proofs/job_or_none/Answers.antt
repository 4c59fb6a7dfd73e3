use Rattle.words_model.proofs.Asked.{asks_or_not}
use Rattle.words_model.proofs.job_or_none.Goals as goal

pub returns : goal.returns
returns c = asks_or_not
