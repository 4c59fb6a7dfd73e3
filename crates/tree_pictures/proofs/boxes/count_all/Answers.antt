use Rattle.std.proofs.Common.{arith}
use Rattle.tree_pictures.proofs.Counts.{counted_all}
use Rattle.tree_pictures.proofs.boxes.count_all.Goals as goal

pub returns : goal.returns
returns c = counted_all c.args.nodes.now c.loop-node.counts c.loop-node.node-index (omega arith) c.loop-node.invariant
