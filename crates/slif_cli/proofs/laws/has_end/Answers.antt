use Rattle.run_model.proofs.AnEnd.{an_end}
use Rattle.slif_cli.proofs.GrammarLaws.{run_laws}
use Rattle.slif_cli.proofs.laws.has_end.Goals as goal

pub returns : goal.returns
returns c = an_end run_laws
