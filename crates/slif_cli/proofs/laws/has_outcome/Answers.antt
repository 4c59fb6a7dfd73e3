use Rattle.run_model.proofs.Exists.{an_outcome}
use Rattle.slif_cli.proofs.GrammarLaws.{run_laws}
use Rattle.slif_cli.proofs.laws.has_outcome.Goals as goal

pub returns : goal.returns
returns c = an_outcome run_laws
