use Rattle.std.proofs.Common.{take, Contains}
use Rattle.recognizer_model.specs.declared.thread.Thread.{Thread}
use Rattle.lexer.specs.Machines.{IsMatch}
use Rattle.lexer.proofs.kinds.matches.Given as goal

abbrev pub invariant-loop-thread : goal.invariant-loop-thread
invariant-loop-thread l = (th : Thread) → Contains (take l.thread-index l.row) th → IsMatch l.flat th → ⊥
