use Rattle.forest_laws.proofs.One.{lists_are_one}
use Rattle.forest_laws.proofs.lists_are_one.Goals as goal

pub returns : goal.returns
returns c = lists_are_one
