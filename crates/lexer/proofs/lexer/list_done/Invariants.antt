use Rattle.std.proofs.Common.{take}
use Rattle.lexer.proofs.Done.{DoneTo}
use Rattle.lexer.proofs.lexer.list_done.Given as goal

abbrev pub invariant-loop-thread : goal.invariant-loop-thread
invariant-loop-thread l = DoneTo l.flat l.initial.done.items (take l.thread-index l.row) l.done.items
