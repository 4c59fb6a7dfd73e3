use Rattle.std.proofs.Common.{◌≡◌, refl, suc, ◌+◌, ◌-◌, ◌<◌, List, length, ap, sym, subst, ◌∙◌, add-one}
use Rattle.tree_iter.specs.declared.walk.Choice.{Choice}
use Rattle.tree_iter.specs.declared.walk.Walk.{Walk}
use Rattle.tree_iter.specs.Goals.{fork_of}
use Rattle.std.specs.Prelude.{slice_set, slice_index_or}
use Rattle.std.specs.Vec.{with_item}
use Rattle.std.proofs.lemmas.Result.{IfOk-from_err}
use Rattle.finite_sets.proofs.Clauses.{on_err}
use Rattle.forest_laws.specs.Goals.{Goal, IsGoal, options}
use Rattle.tree_iter.specs.Goals.{PutsOption}
use Rattle.tree_iter.proofs.Walks.{back_behind, back_goal, back_at, chose_next, next_leaves, set_last, get_last}
use Rattle.tree_iter.proofs.walk.Walk.choose_next.Goals as goal

pub look_at-opened-requires : goal.look_at-opened-requires
look_at-opened-requires g c = back_goal c.args.self.now c.args.choice c.requires.back.0 c.requires.back.1

pub put_option-requires-clause-goal : goal.put_option-requires-clause-goal
put_option-requires-clause-goal g c = subst (IsGoal c.args.self.now.forest.now) (sym c.look_at-opened.ensures.goal) (back_goal c.args.self.now c.args.choice c.requires.back.0 c.requires.back.1)

pub put_option-requires-clause-at : goal.put_option-requires-clause-at
put_option-requires-clause-at g c =
    subst (λ (g : Goal). c.args.choice.chosen + 1 < length (options c.args.self.now.forest.now g)) (sym c.look_at-opened.ensures.goal)
    (back_at c.args.self.now c.args.choice c.requires.back.0 c.requires.back.1 (c.args.choice.chosen + 1) c.requires.later)

pub returns-in_err-put-clause-err : goal.returns-in_err-put-clause-err
returns-in_err-put-clause-err g c = on_err c.from_residual.result
    (λ rest h. back_behind c.args.self.now (record c.args.self.now { goals = c.put_option.new.rows }) rest c.args.choice c.in_err-put.ensures.err h)

pub returns-clause-ok : goal.returns-clause-ok
returns-clause-ok g c = λ rest h.
    let w : Walk = c.args.self.now in
    let last : Choice = c.args.choice in
    let held : Choice = c.index_mut.result.now in
    let size : length c.as_slice.result.now - 1 ≡ length w.choices.items - 1 = ap (λ (l : List Choice). length l - 1) c.as_slice.ensures.value in
    let same : held ≡ last = c.index_mut.ensures.value ∙ ap (λ k. slice_index_or w.choices.items k held) size ∙ get_last w.choices.items h.before last held h.choices in
    let next : Choice = record { fork = held.fork; chosen = last.chosen + 1; count = held.count; behind = held.behind; goals = held.goals; steps = held.steps; counts = held.counts } in
    let more = add-one last.chosen in
    let next_is : next ≡ record last { chosen = suc last.chosen } =
    (λ i. record { fork = (same i).fork; chosen = more i; count = (same i).count; behind = (same i).behind; goals = (same i).goals; steps = (same i).steps; counts = (same i).counts }) in
    let n : Walk = record w { goals = c.put_option.new.rows; choices = with_item w.choices (length c.as_slice.result.now - 1) next } in
    chose_next w n rest last next c.in_ok-put.put next_is
    (subst (λ k. PutsOption w.forest.now (fork_of last.fork) w.goals.items n.goals.items k last.behind c.in_ok-put.put) more
    (subst (λ (g : Goal). PutsOption w.forest.now g w.goals.items n.goals.items (last.chosen + 1) last.behind c.in_ok-put.put) c.look_at-opened.ensures.goal c.in_ok-put.ensures.ok))
    (λ before e. ap (λ k. slice_set w.choices.items k next) size ∙ set_last w.choices.items before last next e) h

pub returns-clause-looks : goal.returns-clause-looks
returns-clause-looks g c = λ k h.
    let w : Walk = c.args.self.now in
    let last : Choice = c.args.choice in
    let next : Choice = record { fork = c.index_mut.result.now.fork; chosen = last.chosen + 1; count = c.index_mut.result.now.count; behind = c.index_mut.result.now.behind; goals = c.index_mut.result.now.goals; steps = c.index_mut.result.now.steps; counts = c.index_mut.result.now.counts } in
    let n : Walk = record w { goals = c.put_option.new.rows; left = c.in_ok-put.put.top; choices = with_item w.choices (length c.as_slice.result.now - 1) next } in
    next_leaves w n c.requires.back.0 last c.in_ok-put.put c.args.steps.now c.look_at-opened.new.steps c.look_at-opened.ensures.looks c.requires.back.1
    (subst (λ i. PutsOption w.forest.now (fork_of last.fork) w.goals.items n.goals.items i last.behind c.in_ok-put.put) (add-one last.chosen)
    (subst (λ (g : Goal). PutsOption w.forest.now g w.goals.items n.goals.items (last.chosen + 1) last.behind c.in_ok-put.put) c.look_at-opened.ensures.goal c.in_ok-put.ensures.ok)) refl k h

pub returns-in_err-put-clause-ok : goal.returns-in_err-put-clause-ok
returns-in_err-put-clause-ok g c = IfOk-from_err _ _ c.from_residual.ensures.0

pub returns-in_err-put-clause-looks : goal.returns-in_err-put-clause-looks
returns-in_err-put-clause-looks g c = IfOk-from_err _ _ c.from_residual.ensures.0
