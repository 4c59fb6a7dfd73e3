use Rattle.std.proofs.Common.{◌≡◌, drop}
use Rattle.tree_pictures.specs.Rules.{is_structural}
use Rattle.tree_pictures.proofs.rules.is_structural.Given as goal

abbrev pub invariant-loop-node : goal.invariant-loop-node
invariant-loop-node l = is_structural (drop l.node-index l.nodes) ≡ is_structural l.nodes
