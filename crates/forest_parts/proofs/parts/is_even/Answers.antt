use Rattle.forest_parts.proofs.Sources.{even_mod}
use Rattle.forest_parts.proofs.parts.is_even.Goals as goal

pub returns : goal.returns
returns c = even_mod c.args.count
