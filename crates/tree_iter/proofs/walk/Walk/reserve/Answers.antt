use Rattle.std.proofs.Common.{refl}
use Rattle.tree_iter.proofs.Walks.{stays}
use Rattle.tree_iter.proofs.walk.Walk.reserve.Goals as goal

pub returns-clause-stays : goal.returns-clause-stays
returns-clause-stays c = stays c.args.self.now (record c.args.self.now { goals = c.reserve.new.self; choices = c.reserve-2.new.self }) c.reserve.ensures.items c.reserve-2.ensures.items

pub returns-in_err-reserve-clause-stays : goal.returns-in_err-reserve-clause-stays
returns-in_err-reserve-clause-stays c = stays c.args.self.now (record c.args.self.now { goals = c.reserve.new.self }) c.reserve.ensures.items refl

pub returns-in_err-reserve-2-clause-stays : goal.returns-in_err-reserve-2-clause-stays
returns-in_err-reserve-2-clause-stays c = stays c.args.self.now (record c.args.self.now { goals = c.reserve.new.self; choices = c.reserve-2.new.self }) c.reserve.ensures.items c.reserve-2.ensures.items
