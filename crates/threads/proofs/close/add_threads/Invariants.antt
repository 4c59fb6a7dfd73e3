use Rattle.std.proofs.Common.{take}
use Rattle.threads.specs.Closing.{Grows}
use Rattle.threads.proofs.close.add_threads.Given as goal

abbrev pub invariant-loop-thread : goal.invariant-loop-thread
invariant-loop-thread l = Grows l.initial.set.keys l.set.keys (take l.thread-index l.threads)
