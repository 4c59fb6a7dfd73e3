use Rattle.std.proofs.Common.{◌≡◌, ◌∙◌, [], map, true, false, ap, subst, refl}
use Rattle.std.proofs.lemmas.Result.{IfOk-from_err}
use Rattle.forest_model.specs.Forest.{Forest}
use Rattle.grammar_core.specs.Steps.{step_of}
use Rattle.tree_iter.specs.Iteration.{Iteration, HasNone, at_steps}
use Rattle.tree_iter.proofs.Given.{given_past, under_way_past, none_has}
use Rattle.tree_iter.proofs.iter.TreeIter.jump.Goals as goal

pub lead_to-requires-clause-stands : goal.lead_to-requires-clause-stands
lead_to-requires-clause-stands g c = let u = c.in_ok-walk.ensures.begun [] in (u.rest, u.remain)

pub invariant_of-self : goal.invariant_of-self
invariant_of-self g c =
    let u = c.in_ok-walk.ensures.begun [] in
    under_way_past c.in_ok-walk.walk c.lead_to.new.walk [] c.self.inside.copy.items u c.lead_to.ensures.forest
    (c.in_ok-lead_to.ensures.comes (c.if-not-branch.false) u.rest u.remain)

pub returns-clause-found : goal.returns-clause-found
returns-clause-found g c = λ found.
    let u = c.in_ok-walk.ensures.begun [] in
    let n = c.lead_to.new.walk in
    let is = c.if-not-branch.false in
    let past = under_way_past c.in_ok-walk.walk n [] c.self.inside.copy.items u c.lead_to.ensures.forest (c.in_ok-lead_to.ensures.comes is u.rest u.remain) in
    let forest : n.forest.now ≡ c.self.inside.walk.forest.now = ap (λ (x : _). x.now) c.lead_to.ensures.forest ∙ c.in_ok-walk.ensures.forest in
    let old : c.self.inside.walk.forest.now ≡ c.args.self.now.forest = ap (λ (it : Iteration). it.forest) c.self.view_is in
    let steps : map step_of n.steps.items ≡ map step_of c.args.to.now = c.in_ok-lead_to.ensures.shows is in
    ((λ i. at_steps ((forest ∙ old) i) (steps i)), given_past n c.self.inside.copy.items past)

pub returns-then-not-branch-clause-missed : goal.returns-then-not-branch-clause-missed
returns-then-not-branch-clause-missed g c = λ missed.
    let u = c.in_ok-walk.ensures.begun [] in
    let w = c.in_ok-walk.walk in
    let forest : w.forest.now ≡ c.args.self.now.forest = c.in_ok-walk.ensures.forest ∙ ap (λ (it : Iteration). it.forest) c.self.view_is in
    let none = none_has w [] u (map step_of c.args.to.now) (c.in_ok-lead_to.ensures.missed c.if-not-branch.true u.rest u.remain) in
    (refl, subst (λ (f : Forest). HasNone f (map step_of c.args.to.now)) forest none)

pub returns-in_err-walk-clause-found : goal.returns-in_err-walk-clause-found
returns-in_err-walk-clause-found g c = IfOk-from_err _ _ c.from_residual.ensures.0

pub returns-in_err-walk-clause-missed : goal.returns-in_err-walk-clause-missed
returns-in_err-walk-clause-missed g c = IfOk-from_err _ _ c.from_residual.ensures.0

pub returns-in_err-lead_to-clause-found : goal.returns-in_err-lead_to-clause-found
returns-in_err-lead_to-clause-found g c = IfOk-from_err _ _ c.from_residual-in_err-lead_to.ensures.0

pub returns-in_err-lead_to-clause-missed : goal.returns-in_err-lead_to-clause-missed
returns-in_err-lead_to-clause-missed g c = IfOk-from_err _ _ c.from_residual-in_err-lead_to.ensures.0
