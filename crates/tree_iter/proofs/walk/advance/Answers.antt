use Rattle.std.proofs.Common.{true, ◌+◌, ◌<◌, length, arith, sym, subst}
use Rattle.std.proofs.lemmas.Result.{IfOk-from_err}
use Rattle.tree_iter.specs.Goals.{units}
use Rattle.tree_iter.specs.Walk.{StandsBefore, StandsBehind, Turns, HasSteps, LeavesSome, Remain}
use Rattle.tree_iter.proofs.Walks.{has_steps, all_looked}
use Rattle.tree_iter.proofs.walk.advance.Goals.{in-Walking, in-Between+in_ok-go_back-in-Between+else-not-branch}
use Rattle.tree_iter.proofs.walk.advance.Goals as goal

pub returns-clause-few : goal.returns-clause-few
returns-clause-few g c =
    elim c.match-place.branch as (λ _. c.go_on.new.steps < c.args.steps.now + length c.go_on.new.self.counts.items) [
      | in-Walking w ↦
          let before : StandsBefore c.args.walk.now c.requires.0 = subst (λ p. Remain p c.args.walk.now c.requires.0) w.in-Walking.is c.requires.1 in
          let has = has_steps c.args.walk.now c.requires.0 before in
          let some = before.some in
          all_looked c.match-place.walk c.go_on.new.self c.match-place.steps c.go_on.new.steps c.args.steps.now (length c.args.walk.now.counts.items + units before.left)
          c.in_ok-go_on.ensures.looks c.in_ok-go_on.ensures.none (subst (λ x. HasSteps x (length c.args.walk.now.counts.items + units before.left)) (sym w.walk-is) has)
          (subst (λ k. k < c.args.steps.now + (length c.args.walk.now.counts.items + units before.left)) (sym w.steps-is) (omega arith))
      | in-Between+in_ok-go_back-in-Between+else-not-branch w ↦
          let behind : StandsBehind c.args.walk.now c.requires.0 = subst (λ p. Remain p c.args.walk.now c.requires.0) w.in-Between.is c.requires.1 in
          let turned : StandsBefore w.go_back.new.self c.requires.0 = subst (λ b. Turns w.go_back.new.self c.requires.0 b) w.if-not-branch.false (w.in_ok-go_back-in-Between.ensures.ok c.requires.0 behind) in
          let leaves : LeavesSome w.go_back.new.self true c.args.steps.now w.go_back.new.steps = subst (λ b. LeavesSome w.go_back.new.self b c.args.steps.now w.go_back.new.steps) w.if-not-branch.false w.in_ok-go_back-in-Between.ensures.looks in
          let n = length w.go_back.new.self.counts.items + units turned.left in
          let has = has_steps w.go_back.new.self c.requires.0 turned in
          all_looked c.match-place.walk c.go_on.new.self c.match-place.steps c.go_on.new.steps c.args.steps.now n
          c.in_ok-go_on.ensures.looks c.in_ok-go_on.ensures.none (subst (λ x. HasSteps x n) (sym w.walk-is) has) (subst (λ k. k < c.args.steps.now + n) (sym w.steps-is) (leaves n has))
    ]

pub returns-in_err-go_back-in-Between-clause-ok : goal.returns-in_err-go_back-in-Between-clause-ok
returns-in_err-go_back-in-Between-clause-ok g c = IfOk-from_err _ _ c.from_residual.ensures.0

pub returns-in_err-go_back-in-Between-clause-few : goal.returns-in_err-go_back-in-Between-clause-few
returns-in_err-go_back-in-Between-clause-few g c = IfOk-from_err _ _ c.from_residual.ensures.0

pub returns-in_err-go_on-clause-ok : goal.returns-in_err-go_on-clause-ok
returns-in_err-go_on-clause-ok g c = IfOk-from_err _ _ c.from_residual-in_err-go_on.ensures.0

pub returns-in_err-go_on-clause-few : goal.returns-in_err-go_on-clause-few
returns-in_err-go_on-clause-few g c = IfOk-from_err _ _ c.from_residual-in_err-go_on.ensures.0
