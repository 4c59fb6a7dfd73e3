use Rattle.flat_rules.proofs.Law.{flat_grammars_exist}
use Rattle.flat_rules.proofs.flat_grammars_exist.Goals as goal

pub returns : goal.returns
returns c = flat_grammars_exist
