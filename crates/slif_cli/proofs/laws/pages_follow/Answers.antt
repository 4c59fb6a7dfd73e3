use Rattle.run_model.proofs.More.{pages_follow}
use Rattle.slif_cli.proofs.laws.pages_follow.Goals as goal

pub returns : goal.returns
returns c = pages_follow
