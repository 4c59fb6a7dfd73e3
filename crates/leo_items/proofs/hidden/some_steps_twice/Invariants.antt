use Rattle.std.proofs.Common.{take}
use Rattle.leo_items.proofs.Twice.{NoneStepsTwice}
use Rattle.leo_items.proofs.hidden.some_steps_twice.Given as goal

abbrev pub invariant-loop-k : goal.invariant-loop-k
invariant-loop-k l = NoneStepsTwice l.flat l.rows.sets l.earleme l.from (take l.k l.whole)
