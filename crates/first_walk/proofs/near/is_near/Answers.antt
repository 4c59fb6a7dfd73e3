use Rattle.forest_parts.specs.Unasked.{Met}
use Rattle.first_walk.proofs.NearTops.{met, asked_over}
use Rattle.first_walk.proofs.near.is_near.Goals as goal

pub returns-then-is_node_of : goal.returns-then-is_node_of
returns-then-is_node_of c _ w = Met (met c.args.first c.args.top (c.is_node_of.ensures c.if-is_node_of.true))

pub returns : goal.returns
returns c t w =
    let (other, waits, e) = c.is_waited_for.ensures t in
    asked_over w c.args.ranking c.args.recce.now c.args.first c.args.top (c.never_outranks.ensures c.if-not-never_outranks.false w c.args.recce.now c.args.first.end) (c.is_whole.ensures.0 c.if-not-is_whole.false) c.requires.last other waits e
