use Rattle.item_sets.proofs.Adding.{tells_there}
use Rattle.item_sets.proofs.item_set.is_in_table.Goals as goal

pub returns : goal.returns
returns c = tells_there c.args.table.now.keys c.args.item c.contains.result c.contains.ensures
