use Rattle.run_model.proofs.OneEnd.{one_end_of}
use Rattle.slif_cli.proofs.GrammarLaws.{run_laws}
use Rattle.slif_cli.proofs.laws.one_end.Goals as goal

pub returns : goal.returns
returns c = one_end_of run_laws
