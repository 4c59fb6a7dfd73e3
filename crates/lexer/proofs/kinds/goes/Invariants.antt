use Rattle.std.proofs.Common.{◌≡◌, ℕ, Some, take, Contains}
use Rattle.recognizer_model.specs.declared.thread.Thread.{Thread}
use Rattle.recognizer_model.specs.Threads.{next}
use Rattle.lexer.proofs.kinds.goes.Given as goal

abbrev pub invariant-loop-thread : goal.invariant-loop-thread
invariant-loop-thread l = (th : Thread) → Contains (take l.thread-index l.row) th → ((x : ℕ) × (next l.flat th ≡ Some x)) → ⊥
