use Rattle.std.proofs.Common.{take}
use Rattle.threads.proofs.Folding.{OnlyIn}
use Rattle.threads.proofs.fold.only_waiting.Given as goal

abbrev pub invariant-loop-thread : goal.invariant-loop-thread
invariant-loop-thread l = OnlyIn l.flat l.row l.symbol l.found (take l.thread-index l.row)
