use Rattle.std.proofs.Common.{◌≡◌, ◌↔◌, ℕ, Some, List, Contains, subst}
use Rattle.std.proofs.lemmas.List.{take_all}
use Rattle.recognizer_model.specs.declared.thread.Thread.{Thread}
use Rattle.recognizer_model.specs.Threads.{next}
use Rattle.threads.proofs.Ordered.{none_waiting, more_waiting}
use Rattle.threads.proofs.part.list_all_waiting.Goals as goal

pub loop-goal-init : goal.loop-goal-init
loop-goal-init c = none_waiting c.args.flat.now c.args.ordered.now c.args.goals.now c.args.part.now.items c.requires.empty

pub loop-goal-preserved : goal.loop-goal-preserved
loop-goal-preserved c =
    more_waiting c.args.flat.now c.args.ordered.now c.args.goals.now c.loop-goal.goal-index c.loop-goal-test.true c.loop-goal.part.items c.list_waiting.new.part.items c.loop-goal.invariant c.in_ok-list_waiting.ensures

pub returns : goal.returns
returns c =
    subst (λ (l : List ℕ). (th : Thread) → Contains c.loop-goal.part.items th ↔ (Contains c.args.ordered.now th × ((x : ℕ) × (next c.args.flat.now th ≡ Some x) × Contains l x)))
    (take_all c.loop-goal.goal-index c.args.goals.now c.loop-goal-test.false) c.loop-goal.invariant
