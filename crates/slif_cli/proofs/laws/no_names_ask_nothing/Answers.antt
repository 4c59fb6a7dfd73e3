use Rattle.run_model.proofs.Accepted.{no_names_ask_nothing}
use Rattle.slif_cli.proofs.laws.no_names_ask_nothing.Goals as goal

pub returns : goal.returns
returns c = no_names_ask_nothing
