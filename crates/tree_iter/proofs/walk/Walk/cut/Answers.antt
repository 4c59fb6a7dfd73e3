use Rattle.tree_iter.proofs.Walks.{cut_back}
use Rattle.tree_iter.proofs.walk.Walk.cut.Goals as goal

pub returns-clause-back : goal.returns-clause-back
returns-clause-back c = λ rest h. cut_back c.args.self.now (record c.args.self.now { goals = c.truncate.new.self; counts = c.truncate-3.new.self; steps = c.truncate-2.new.self }) rest c.requires.last.0 c.args.choice
    c.requires.last.1 c.truncate.ensures.items c.truncate-3.ensures.items c.truncate-2.ensures.items h
