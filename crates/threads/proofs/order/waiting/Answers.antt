use Rattle.std.proofs.Common.{◌≡◌, ◌↔◌, Some, List, Contains, sym, subst, arith}
use Rattle.recognizer_model.specs.declared.thread.Thread.{Thread}
use Rattle.recognizer_model.specs.Threads.{next}
use Rattle.threads.proofs.Ordered.{start_first, part_has}
use Rattle.threads.proofs.order.waiting.Goals as goal

pub between-requires-clause-order : goal.between-requires-clause-order
between-requires-clause-order c =
    start_first c.args.flat.now c.args.ordered.now c.args.symbol (omega arith) c.below-start.result c.below-end.result c.below-start.ensures.bound c.below-end.ensures.bound
    c.below-start.ensures.below c.below-start.ensures.above c.below-end.ensures.below c.below-end.ensures.above

pub returns : goal.returns
returns c th =
    subst (λ (l : List Thread). Contains l th ↔ (Contains c.args.ordered.now th × (next c.args.flat.now th ≡ Some c.args.symbol))) (sym c.between.ensures)
    (part_has c.args.flat.now c.args.ordered.now c.args.symbol (omega arith) c.below-start.result c.below-end.result c.below-start.ensures.bound c.below-end.ensures.bound
    c.below-start.ensures.below c.below-start.ensures.above c.below-end.ensures.below c.below-end.ensures.above th)
