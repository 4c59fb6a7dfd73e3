use Rattle.std.proofs.Common.{map}
use Rattle.tree_text.specs.Nested.{node_of}
use Rattle.tree_text.proofs.Nested.{all_nested}
use Rattle.tree_text.proofs.nodes.nodes_of.Goals as goal

pub returns : goal.returns
returns c = all_nested c.loop-k.growing.nodes.items (map node_of c.loop-k.growing.open.items) c.loop-k.invariant
