use Rattle.forest_laws.proofs.Skips.{walks_skip}
use Rattle.forest_laws.proofs.walks_skip.Goals as goal

pub returns : goal.returns
returns c = walks_skip
