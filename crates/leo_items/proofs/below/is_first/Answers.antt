use Rattle.leo_items.proofs.Walking.{gathered_has}
use Rattle.leo_items.proofs.below.is_first.Goals as goal

pub returns-else-is_empty : goal.returns-else-is_empty
returns-else-is_empty c = gathered_has c.args.first.now c.args.tops.now c.args.bottoms.now c.args.item c.contains.result c.is_empty.result c.requires c.is_empty.ensures c.if-is_empty.false c.contains.ensures
