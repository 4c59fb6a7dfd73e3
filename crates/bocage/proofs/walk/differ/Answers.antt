use Rattle.forest_parts.proofs.NodeKeys.{nodes_differ}
use Rattle.bocage.proofs.walk.differ.Goals as goal

pub returns : goal.returns
returns c = nodes_differ c.args.keys.now.keys c.as_slice-keys.ensures.unique
