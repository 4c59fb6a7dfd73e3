use Rattle.std.proofs.Common.{◌≡◌, drop}
use Rattle.tree_pictures.specs.Rules.{left_of}
use Rattle.tree_pictures.proofs.rules.left_of.Given as goal

abbrev pub invariant-loop-node : goal.invariant-loop-node
invariant-loop-node l = left_of (drop l.node-index l.nodes) ≡ left_of l.nodes
