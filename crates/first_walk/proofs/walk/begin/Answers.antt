use Rattle.std.proofs.Common.{◌<◌, ◌∷◌, ◌++◌, [], List, sym, ap, ◌∙◌, subst, arith}
use Rattle.grammar_model.specs.Steps.{NulledStep}
use Rattle.recognizer_model.specs.Flat.{lhs_of}
use Rattle.bocage.proofs.Whole.{top_is}
use Rattle.flat_steps.specs.declared.writing.FlatStep.{FlatStep}
use Rattle.first_walk.specs.Going.{backwards, whole_key_of, whole_step}
use Rattle.first_walk.proofs.Goings.{empty_begun, whole_begun, empty_ahead, whole_ahead}
use Rattle.first_walk.proofs.walk.begin.Goals as goal

pub lhs-requires : goal.lhs-requires
lhs-requires c = (c.top-top.ensures.flat.tops c.start.result c.top-top.result c.top-top.ensures.value).is_top.is_rule

pub put_whole-requires : goal.put_whole-requires
put_whole-requires c = (c.top-top.ensures.flat.tops c.start.result c.top-top.result c.top-top.ensures.value).is_top.is_rule

pub returns-then-place-eq0-clause-walking : goal.returns-then-place-eq0-clause-walking
returns-then-place-eq0-clause-walking c =
    let top = top_is c.args.recce.now c.flat-flat.result.now c.start.result c.top-top.result c.flat-flat.ensures c.start.ensures c.top-top.ensures.value in
    empty_begun c.args.w.now c.args.ranking c.args.recce.now c.requires.read c.requires.tree (sym c.place.ensures.place ∙ c.if-place-eq0.true) c.lhs.result
    (c.lhs.ensures ∙ (λ i. lhs_of (c.flat-flat.ensures i) (top i))) c.put_empty.new.walk.goals.items (backwards c.put_empty.new.walk.steps.items) c.put_empty.new.walk.alone
    ((λ i. (c.in_ok-put_empty.ensures.goals i).items) ∙ c.new_walk-walk.ensures.goals)
    (c.in_ok-put_empty.ensures.steps ∙ ap (λ (l : List FlatStep). NulledStep c.lhs.result 0 ∷ backwards l) c.new_walk-walk.ensures.steps)
    (c.in_ok-put_empty.ensures.alone ∙ c.new_walk-walk.ensures.alone)

pub returns-then-place-eq0-clause-ahead : goal.returns-then-place-eq0-clause-ahead
returns-then-place-eq0-clause-ahead c =
    empty_ahead c.args.w.now c.args.ranking c.args.recce.now c.requires.read c.requires.tree c.put_empty.new.walk.goals.items ((λ i. (c.in_ok-put_empty.ensures.goals i).items) ∙ c.new_walk-walk.ensures.goals)

pub returns-clause-walking : goal.returns-clause-walking
returns-clause-walking c =
    let top = top_is c.args.recce.now c.flat-flat.result.now c.start.result c.top-top.result c.flat-flat.ensures c.start.ensures c.top-top.ensures.value in
    let some : 0 < c.place.result = omega arith in
    whole_begun c.args.w.now c.args.ranking c.args.recce.now c.requires.read c.requires.tree (subst (λ n. 0 < n) c.place.ensures.place some)
    c.put_whole.new.walk.goals.items (backwards c.put_whole.new.walk.steps.items) c.put_whole.new.walk.alone
    (c.in_ok-put_whole.ensures.goals ∙ (λ i. c.new_walk-walk.ensures.goals i ++ whole_key_of (c.flat-flat.ensures i) (top i) 0 (c.place-2.ensures.place i) ∷ []))
    (c.in_ok-put_whole.ensures.steps ∙ (λ i. whole_step (c.flat-flat.ensures i) (top i) 0 (c.place-2.ensures.place i) ∷ backwards (c.new_walk-walk.ensures.steps i)))
    (c.in_ok-put_whole.ensures.alone ∙ c.new_walk-walk.ensures.alone)

pub returns-clause-ahead : goal.returns-clause-ahead
returns-clause-ahead c =
    let top = top_is c.args.recce.now c.flat-flat.result.now c.start.result c.top-top.result c.flat-flat.ensures c.start.ensures c.top-top.ensures.value in
    let some : 0 < c.place.result = omega arith in
    whole_ahead c.args.w.now c.args.ranking c.args.recce.now c.requires.read c.requires.tree (subst (λ n. 0 < n) c.place.ensures.place some) c.put_whole.new.walk.goals.items
    (c.in_ok-put_whole.ensures.goals ∙ (λ i. c.new_walk-walk.ensures.goals i ++ whole_key_of (c.flat-flat.ensures i) (top i) 0 (c.place-2.ensures.place i) ∷ []))
