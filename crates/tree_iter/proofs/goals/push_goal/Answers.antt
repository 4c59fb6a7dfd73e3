use Rattle.std.proofs.Common.{◌≡◌, ◌∷◌, [], length, List, ◌++◌}
use Rattle.tree_iter.specs.Goals.{goal_of, Puts}
use Rattle.std.proofs.Common.{suc, ap, sym, subst, ◌∙◌, length-append, add-one}
use Rattle.tree_iter.specs.declared.goals.GoalRow.{GoalRow}
use Rattle.tree_iter.proofs.GoalLemmas.{puts_one}
use Rattle.std.proofs.lemmas.Result.{IfOk-from_err}
use Rattle.tree_iter.proofs.goals.push_goal.Goals as goal

-- src/goals.rt:51:1
pub returns-clause-ok : goal.returns-clause-ok
returns-clause-ok c =
    let row : GoalRow = record { goal = c.args.goal; below = c.args.below } in
    let items = c.in_ok-push.ensures.items in
    let size : suc (length c.args.rows.now.items) ≡ length c.as_slice.result.now =
    sym (ap (λ (l : List GoalRow). length l) (c.as_slice.ensures.value ∙ items) ∙ length-append c.args.rows.now.items (row ∷ []) ∙ add-one (length c.args.rows.now.items)) in
    subst (λ l. Puts c.args.rows.now.items l c.args.below (length c.as_slice.result.now) (goal_of c.args.goal ∷ [])) (sym items)
    (subst (λ top. Puts c.args.rows.now.items (c.args.rows.now.items ++ row ∷ []) c.args.below top (goal_of c.args.goal ∷ [])) size (puts_one c.args.rows.now.items row))

pub returns-in_err-push-clause-ok : goal.returns-in_err-push-clause-ok
returns-in_err-push-clause-ok c = IfOk-from_err _ _ c.from_residual.ensures.0
