use Rattle.grammar_laws.proofs.Flats.{decisions_exist}
use Rattle.grammar_laws.proofs.decisions_exist.Goals as goal

pub returns : goal.returns
returns c = decisions_exist
