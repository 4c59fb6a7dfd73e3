use Rattle.std.proofs.Common.{◌∙◌, ◌≡◌, arith}
use Rattle.tree_iter.proofs.Walks.{reaches, looks_then}
use Rattle.tree_iter.proofs.Further.{closer}
use Rattle.std.proofs.lemmas.Result.{IfOk-from_err}
use Rattle.tree_iter.proofs.walk.Walk.go_on.Goals as goal

pub go_one-requires-clause-stands : goal.go_one-requires-clause-stands
go_one-requires-clause-stands g c = (c.requires.0, c.walk.invariant.goes c.requires.0 c.requires.1)

pub walk-preserved : goal.walk-preserved
walk-preserved g c = record {
  forest = c.go_one.ensures.forest ∙ c.walk.invariant.forest;
  goes = λ rest h. c.go_one.ensures.goes rest (c.walk.invariant.goes rest h);
  looks = looks_then c.args.self.now c.walk.self c.go_one.new.self c.args.steps.now c.walk.steps c.go_one.new.steps c.walk.invariant.looks c.in_ok-go_one.ensures.looks;
}

pub walk-smaller : goal.walk-smaller
walk-smaller g c = closer c.walk.self c.go_one.new.self c.requires.0 (c.walk.invariant.goes c.requires.0 c.requires.1) c.in_ok-go_one.ensures.further

pub returns-clause-ok : goal.returns-clause-ok
returns-clause-ok g c = λ rest h.
    let none : c.walk.self.left ≡ 0 = (let end = c.walk-test.false in omega arith) in
    reaches c.walk.self rest none (c.walk.invariant.goes rest h)

pub returns-in_err-go_one-clause-ok : goal.returns-in_err-go_one-clause-ok
returns-in_err-go_one-clause-ok g c = IfOk-from_err _ _ c.from_residual.ensures.0

pub returns-in_err-go_one-clause-looks : goal.returns-in_err-go_one-clause-looks
returns-in_err-go_one-clause-looks g c = IfOk-from_err _ _ c.from_residual.ensures.0

pub returns-in_err-go_one-clause-none : goal.returns-in_err-go_one-clause-none
returns-in_err-go_one-clause-none g c = IfOk-from_err _ _ c.from_residual.ensures.0
