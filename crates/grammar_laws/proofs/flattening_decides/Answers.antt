use Rattle.grammar_laws.proofs.Flattening.{flattening_decides}
use Rattle.grammar_laws.proofs.flattening_decides.Goals as goal

pub returns : goal.returns
returns c = flattening_decides
