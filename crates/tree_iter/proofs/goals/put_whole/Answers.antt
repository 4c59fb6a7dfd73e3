use Rattle.std.proofs.lemmas.Result.{IfOk-weaker}
use Rattle.tree_iter.proofs.GoalLemmas.{whole_put}
use Rattle.std.proofs.lemmas.Result.{IfOk-from_err}
use Rattle.tree_iter.proofs.goals.put_whole.Goals as goal

-- src/goals.rt:117:1
pub returns-clause-ok : goal.returns-clause-ok
returns-clause-ok c =
    IfOk-weaker c.push_goal-2.result _ _
    (λ top h. whole_put c.args.forest.now c.args.start c.args.end c.args.node c.key-key.result c.args.rows.now.items c.push_goal.new.rows.items c.push_goal-2.new.rows.items c.args.behind c.in_ok-top.top top
    c.requires c.key-key.ensures.value c.in_ok-top.ensures.ok h) c.push_goal-2.ensures.ok

pub returns-in_err-top-clause-ok : goal.returns-in_err-top-clause-ok
returns-in_err-top-clause-ok c = IfOk-from_err _ _ c.from_residual.ensures.0
