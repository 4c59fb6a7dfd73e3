use Rattle.run_model.proofs.Outcomes.{one_of_all}
use Rattle.slif_cli.proofs.GrammarLaws.{run_laws}
use Rattle.slif_cli.proofs.laws.one_outcome.Goals as goal

pub returns : goal.returns
returns c = one_of_all run_laws
