use Rattle.tree_iter.specs.declared.walk.Walk.{Walk}
use Rattle.tree_iter.proofs.Walks.{cut_before, cut_on, cut_left}
use Rattle.tree_iter.proofs.walk.Walk.let_go.Goals as goal

pub returns-clause-goes : goal.returns-clause-goes
returns-clause-goes c = λ rest h.
    let w : Walk = c.args.self.now in
    cut_before w (record w { goals = c.truncate.new.self }) rest c.kept-kept.result c.kept-kept.ensures c.truncate.ensures.items h

pub returns-clause-keeps : goal.returns-clause-keeps
returns-clause-keeps c =
    let w : Walk = c.args.self.now in
    cut_left w (record w { goals = c.truncate.new.self }) c.kept-kept.result c.kept-kept.ensures c.truncate.ensures.items

pub returns-clause-on : goal.returns-clause-on
returns-clause-on c = λ lists trail left h.
    let w : Walk = c.args.self.now in
    cut_on w (record w { goals = c.truncate.new.self }) lists trail left c.kept-kept.result c.kept-kept.ensures c.truncate.ensures.items h
