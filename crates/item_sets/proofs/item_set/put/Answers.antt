use Rattle.item_sets.proofs.Adding.{adds_key}
use Rattle.item_sets.proofs.Growing.{Adds-has}
use Rattle.item_sets.proofs.item_set.put.Goals as goal

pub returns-clause-ok : goal.returns-clause-ok
returns-clause-ok c x = Adds-has c.args.table.now.keys c.insert.new.self.keys c.args.item x (adds_key c.args.table.now.keys c.insert.new.self.keys c.args.item c.in_ok-insert.ensures.keys)
