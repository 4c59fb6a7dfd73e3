use Rattle.words_model.proofs.Spellings.{spellings}
use Rattle.words_model.proofs.spellings_agree.Goals as goal

pub returns : goal.returns
returns c = spellings
