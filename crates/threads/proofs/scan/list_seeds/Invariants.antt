use Rattle.std.proofs.Common.{take}
use Rattle.threads.proofs.Parts.{ScannedTo}
use Rattle.threads.proofs.scan.list_seeds.Given as goal

abbrev pub invariant-loop-thread : goal.invariant-loop-thread
invariant-loop-thread l = ScannedTo l.flat l.initial.parts l.terminals l.row (take l.thread-index l.row) l.parts l.seeds.items
