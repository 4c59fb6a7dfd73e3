use Rattle.std.proofs.Common.{subst}
use Rattle.recognizer_model.specs.Threads.{Up, On, Waiting}
use Rattle.threads.specs.Steps.{FoldsIn}
use Rattle.threads.proofs.fold.fold_ordered.Goals as goal

pub loop-init : goal.loop-init
loop-init c = λ parts label f. f

pub loop-preserved : goal.loop-preserved
loop-preserved c = λ parts label f.
    c.loop.invariant parts label (On (c.in-Some.ensures.lone parts) c.in-None.is (subst (λ x. FoldsIn c.args.flat.now parts (Waiting c.args.flat.now c.args.row.now) x label) c.lhs-goal.ensures f))

pub returns-in-Some-label-clause-folded : goal.returns-in-Some-label-clause-folded
returns-in-Some-label-clause-folded c = λ parts. c.loop.invariant parts c.in-Some-label.label (Up (c.in-Some.ensures.lone parts) c.in-Some-label.is)
