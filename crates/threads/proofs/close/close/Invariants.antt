use Rattle.threads.specs.Closing.{IsClosedTo}
use Rattle.threads.proofs.close.close.Given as goal

abbrev pub invariant-loop-k : goal.invariant-loop-k
invariant-loop-k l = IsClosedTo l.flat l.parts l.initial.set.keys l.set.keys l.k
