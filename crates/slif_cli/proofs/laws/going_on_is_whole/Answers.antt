use Rattle.run_model.proofs.More.{going_on_is_whole}
use Rattle.slif_cli.proofs.laws.going_on_is_whole.Goals as goal

pub returns : goal.returns
returns c = going_on_is_whole
