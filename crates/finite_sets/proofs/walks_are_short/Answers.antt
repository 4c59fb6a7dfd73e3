use Rattle.finite_sets.proofs.Numbers.{walks_are_short}
use Rattle.finite_sets.proofs.walks_are_short.Goals as goal

pub returns : goal.returns
returns c = walks_are_short
