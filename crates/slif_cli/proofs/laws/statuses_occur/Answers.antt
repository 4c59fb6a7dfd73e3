use Rattle.run_model.proofs.Statuses.{statuses}
use Rattle.slif_cli.proofs.GrammarLaws.{run_laws}
use Rattle.slif_cli.proofs.laws.statuses_occur.Goals as goal

pub returns : goal.returns
returns c = statuses run_laws
