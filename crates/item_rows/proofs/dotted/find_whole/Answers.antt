use Rattle.item_rows.proofs.Listed.{whole_span}
use Rattle.item_rows.proofs.dotted.find_whole.Goals as goal

pub returns : goal.returns
returns c = whole_span c.args.flat.now c.known.ensures.flat c.args.rules.now c.requires.dots c.below-start.result c.below-start.ensures.bound c.below-start.ensures.below c.below-start.ensures.above
