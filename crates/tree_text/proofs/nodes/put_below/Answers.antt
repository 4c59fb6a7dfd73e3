use Rattle.std.proofs.Common.{◌-◌, vec_len, ap, refl, arith}
use Rattle.std.proofs.Math.Seq.{map-set_same}
use Rattle.tree_text.specs.Nested.{node_of}
use Rattle.tree_text.proofs.Nested.{last_opened}
use Rattle.tree_text.proofs.nodes.put_below.Goals as goal

pub returns-clause-nodes : goal.returns-clause-nodes
returns-clause-nodes c = map-set_same node_of c.args.opened.now.items (vec_len c.args.opened.now - 1) _ c.in_ok-last.last.now (ap node_of c.in_ok-last.ensures.value)

pub returns-clause-was : goal.returns-clause-was
returns-clause-was c = last_opened c.args.opened.now.items (vec_len c.args.opened.now) c.in_ok-last.last.now (omega (arith, c.args.opened.now.ok)) (c.in_ok-last.ensures.variant.0 refl) c.in_ok-last.ensures.value
