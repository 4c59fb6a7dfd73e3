use Rattle.std.proofs.Common.{take}
use Rattle.threads.proofs.Closing.{CompletedTo}
use Rattle.threads.proofs.close.list_completed.Given as goal

abbrev pub invariant-loop-thread : goal.invariant-loop-thread
invariant-loop-thread l = CompletedTo l.flat l.parts l.label l.initial.next.items (take l.thread-index l.part) l.next.items
