use Rattle.std.proofs.Common.{take}
use Rattle.tree_pictures.proofs.Counts.{AreCounted}
use Rattle.tree_pictures.proofs.boxes.count_all.Given as goal

abbrev pub invariant-loop-node : goal.invariant-loop-node
invariant-loop-node l = AreCounted l.nodes l.counts (take l.node-index l.nodes)
