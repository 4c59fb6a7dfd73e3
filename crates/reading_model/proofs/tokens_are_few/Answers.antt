use Rattle.reading_model.proofs.Few.{tokens_are_few}
use Rattle.reading_model.proofs.tokens_are_few.Goals as goal

pub returns : goal.returns
returns c = tokens_are_few
