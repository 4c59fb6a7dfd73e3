use Rattle.std.proofs.Common.{take}
use Rattle.threads.specs.Steps.{Keeps}
use Rattle.threads.proofs.row.list_kept.Given as goal

abbrev pub invariant-loop-thread : goal.invariant-loop-thread
invariant-loop-thread l = Keeps l.flat (take l.thread-index l.set) l.row.items
