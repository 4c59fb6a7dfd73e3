use Rattle.std.proofs.Common.{◌∙◌, ◌≡◌, arith, refl, false}
use Rattle.std.proofs.lemmas.Result.{IfOk-from_err}
use Rattle.tree_iter.proofs.Passing.{past_none, past_then, comes_to}
use Rattle.tree_iter.proofs.Further.{closer}
use Rattle.tree_iter.proofs.jump.Guide.go_on.Goals as goal

pub goals-init : goal.goals-init
goals-init g c = record { forest = refl; past = past_none c.args.walk.now; looks = refl; to = refl; leads = λ h. h }

pub go_one-requires-clause-stands : goal.go_one-requires-clause-stands
go_one-requires-clause-stands g c = let p = c.goals.invariant.past c.requires.0 c.requires.1 in (p.later, p.stands)

pub goals-preserved : goal.goals-preserved
goals-preserved g c = record {
  forest = c.go_one.ensures.forest ∙ c.goals.invariant.forest;
  past = past_then c.args.walk.now c.goals.walk c.go_one.new.walk c.goals.invariant.past (c.in_ok-led.ensures.goes c.if-not-led.false);
  looks = c.go_one.ensures.looks ∙ c.goals.invariant.looks;
  to = c.go_one.ensures.to ∙ c.goals.invariant.to;
  leads = λ h. (c.in_ok-led.ensures.kept (c.goals.invariant.leads h)).1;
}

pub goals-smaller : goal.goals-smaller
goals-smaller g c =
    let p = c.goals.invariant.past c.requires.0 c.requires.1 in
    closer c.goals.walk c.go_one.new.walk p.later p.stands (c.in_ok-led.ensures.further c.if-not-led.false)

pub returns-clause-comes : goal.returns-clause-comes
returns-clause-comes g c = λ led rest h.
    let none : c.goals.walk.left ≡ 0 = (let end = c.goals-test.false in omega arith) in
    comes_to c.goals.walk rest none (c.goals.invariant.past rest h)

pub returns-clause-kept : goal.returns-clause-kept
returns-clause-kept g c = λ h. (refl, c.goals.invariant.leads h)

pub returns-in_err-led-clause-comes : goal.returns-in_err-led-clause-comes
returns-in_err-led-clause-comes g c = IfOk-from_err _ _ c.from_residual.ensures.0

pub returns-in_err-led-clause-kept : goal.returns-in_err-led-clause-kept
returns-in_err-led-clause-kept g c = IfOk-from_err _ _ c.from_residual.ensures.0

pub returns-in_err-led-clause-none : goal.returns-in_err-led-clause-none
returns-in_err-led-clause-none g c = IfOk-from_err _ _ c.from_residual.ensures.0
