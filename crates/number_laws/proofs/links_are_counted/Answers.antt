use Rattle.number_laws.proofs.Counted.{links_are_counted}
use Rattle.number_laws.proofs.links_are_counted.Goals as goal

pub returns : goal.returns
returns c = links_are_counted
