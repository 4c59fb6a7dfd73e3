use Rattle.words_model.proofs.Fitted.{jobs_are_fitted}
use Rattle.words_model.proofs.jobs_are_fitted.Goals as goal

pub returns : goal.returns
returns c = jobs_are_fitted
