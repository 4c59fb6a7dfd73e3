use Rattle.std.specs.Prelude.{map, take}
use Rattle.flat_steps.specs.Writing.{flat_step, AreDone}
use Rattle.flat_steps.proofs.writing.write_steps.Given as goal

abbrev pub invariant-loop-k : goal.invariant-loop-k
invariant-loop-k l = AreDone l.written l.flat l.counts.items l.all.items (map flat_step (take l.k l.steps))
