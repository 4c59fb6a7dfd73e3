use Rattle.std.proofs.Common.{◌∙◌}
use Rattle.std.proofs.lemmas.Result.{IfOk-from_err}
use Rattle.tree_iter.specs.Goals.{fork_of, look}
use Rattle.tree_iter.proofs.Choosing.{goes_first, skips_to}
use Rattle.tree_iter.proofs.Walks.{fork_goal, fork_some}
use Rattle.tree_iter.proofs.walk.Walk.choose.Goals as goal

pub look_at-opened-requires : goal.look_at-opened-requires
look_at-opened-requires g c = fork_goal c.reserve.new.self c.args.fork c.args.behind (c.reserve.ensures.stays.about (fork_of c.args.fork) c.args.behind c.requires)

pub choose_opened-requires-clause-about : goal.choose_opened-requires-clause-about
choose_opened-requires-clause-about g c = c.reserve.ensures.stays.about (fork_of c.args.fork) c.args.behind c.requires

pub choose_opened-requires-clause-at : goal.choose_opened-requires-clause-at
choose_opened-requires-clause-at g c = fork_some c.reserve.new.self c.args.fork c.args.behind (c.reserve.ensures.stays.about (fork_of c.args.fork) c.args.behind c.requires)

pub returns-clause-goes : goal.returns-clause-goes
returns-clause-goes g c = λ rest h.
    goes_first c.choose_opened.new.self rest
    (skips_to c.reserve.new.self c.choose_opened.new.self rest (fork_of c.args.fork) 0 c.args.behind (c.reserve.ensures.stays.about (fork_of c.args.fork) c.args.behind c.requires) c.choose_opened.ensures.forest (c.reserve.ensures.stays.goes rest h) c.choose_opened.ensures.chooses)

pub returns-clause-looks : goal.returns-clause-looks
returns-clause-looks g c = λ m h. (look (fork_of c.args.fork), c.choose_opened.ensures.steps m (c.reserve.ensures.stays.steps m h), c.look_at-opened.ensures.looks)

pub returns-clause-further : goal.returns-clause-further
returns-clause-further g c = λ m h. c.choose_opened.ensures.further m (c.reserve.ensures.stays.come m h)

pub returns-clause-forest : goal.returns-clause-forest
returns-clause-forest g c = c.choose_opened.ensures.forest ∙ c.reserve.ensures.stays.forest

pub returns-in_err-reserve-clause-goes : goal.returns-in_err-reserve-clause-goes
returns-in_err-reserve-clause-goes g c = c.reserve.ensures.stays.goes

pub returns-in_err-reserve-clause-looks : goal.returns-in_err-reserve-clause-looks
returns-in_err-reserve-clause-looks g c = IfOk-from_err _ _ c.from_residual.ensures.0

pub returns-in_err-reserve-clause-further : goal.returns-in_err-reserve-clause-further
returns-in_err-reserve-clause-further g c = IfOk-from_err _ _ c.from_residual.ensures.0
