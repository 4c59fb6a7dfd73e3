use Rattle.forest_laws.specs.Goals.{cause_goals}
use Rattle.bocage.specs.Readers.{alternative_at, node_at}
use Rattle.tree_iter.specs.Goals.{goal_of}
use Rattle.std.proofs.Common.{◌∙◌}
use Rattle.std.proofs.lemmas.Result.{IfOk-weaker, IfOk-from_err}
use Rattle.tree_iter.proofs.GoalLemmas.{alternative_put}
use Rattle.tree_iter.proofs.goals.put_alternative.Goals as goal

-- src/goals.rt:89:1
pub returns-in-Some-clause-ok : goal.returns-in-Some-clause-ok
returns-in-Some-clause-ok c =
    IfOk-weaker c.push_goal-in-Some.result _ _
    (λ top h. alternative_put c.args.forest.now (node_at c.args.forest.now c.args.node) (alternative_at c.args.alternatives.now c.args.at) c.args.rows.now.items c.push_goal.new.rows.items c.push_goal-in-Some.new.rows.items
    c.args.behind c.in_ok-top.top top (goal_of c.cause_goal-cause.result) c.in-Some.predecessor
    (c.cause_goal-cause.ensures ∙ (λ i. cause_goals (c.cause_symbol.ensures i) (c.start.ensures i) ((c.key.ensures.value i).end) (c.cause.ensures i)))
    c.in-Some.ensures c.in_ok-top.ensures.ok h) c.push_goal-in-Some.ensures.ok

pub returns-in_err-top-clause-ok : goal.returns-in_err-top-clause-ok
returns-in_err-top-clause-ok c = IfOk-from_err _ _ c.from_residual.ensures.0
