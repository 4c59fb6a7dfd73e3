use Rattle.first_walk.proofs.Firsts.{walks_are_first}
use Rattle.first_walk.proofs.laws.walks_are_first.Goals as goal

pub returns : goal.returns
returns c = walks_are_first
