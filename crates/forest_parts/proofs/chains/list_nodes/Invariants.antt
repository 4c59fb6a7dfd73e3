use Rattle.std.proofs.Common.{◌≡◌, length}
use Rattle.forest_parts.specs.Chains.{AreChained}
use Rattle.forest_parts.proofs.chains.list_nodes.Given as goal

abbrev pub invariant-loop-node : goal.invariant-loop-node
invariant-loop-node l = record {
  chained : AreChained l.keys.keys l.chains.heads.items l.chains.below.items;
  long : length l.chains.below.items ≡ l.node;
}
