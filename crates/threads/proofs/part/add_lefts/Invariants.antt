use Rattle.std.proofs.Common.{take}
use Rattle.threads.specs.Goals.{HasAddedLefts}
use Rattle.threads.proofs.part.add_lefts.Given as goal

abbrev pub invariant-loop-thread : goal.invariant-loop-thread
invariant-loop-thread l = HasAddedLefts l.flat (take l.thread-index l.row) l.goal l.initial.goals.items l.goals.items
