use Rattle.std.proofs.lemmas.Result.{IfOk-weaker}
use Rattle.tree_iter.proofs.GoalLemmas.{top_rule, none_put}
use Rattle.tree_iter.proofs.goals.put_root.Goals as goal

-- src/goals.rt:185:17
pub lhs-symbol-requires : goal.lhs-symbol-requires
lhs-symbol-requires c = top_rule c.args.forest.now c.known.ensures c.flat-flat.result.now c.start.result c.top.result c.flat-flat.ensures c.start.ensures c.top.ensures.value

-- src/goals.rt:174:1
pub returns-in-None : goal.returns-in-None
returns-in-None c =
    IfOk-weaker c.push_goal.result _ _
    (λ top h. none_put c.args.forest.now c.flat-flat.result.now c.start.result c.top.result c.lhs-symbol.result c.args.rows.now.items c.push_goal.new.rows.items top c.in-None.ensures c.flat-flat.ensures c.start.ensures c.top.ensures.value
    c.lhs-symbol.ensures h) c.push_goal.ensures.ok
