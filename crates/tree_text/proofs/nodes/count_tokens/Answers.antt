use Rattle.std.proofs.Common.{ap}
use Rattle.std.proofs.Math.Seq.{map-set_same}
use Rattle.tree_text.specs.Nested.{level_of}
use Rattle.tree_text.proofs.nodes.count_tokens.Goals as goal

pub returns-in-Some : goal.returns-in-Some
returns-in-Some c = map-set_same level_of c.args.nodes.now.items c.args.place _ c.in-Some.node.now (ap level_of c.in-Some.ensures.value)
