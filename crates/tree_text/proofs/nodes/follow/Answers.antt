use Rattle.std.proofs.Common.{ap}
use Rattle.std.proofs.Math.Seq.{map-set_same}
use Rattle.tree_text.specs.Nested.{level_of}
use Rattle.tree_text.proofs.nodes.follow.Goals as goal

pub returns-in-Some-get_mut : goal.returns-in-Some-get_mut
returns-in-Some-get_mut c = map-set_same level_of c.args.nodes.now.items c.in-Some.earlier _ c.in-Some-get_mut.node.now (ap level_of c.in-Some-get_mut.ensures.value)
