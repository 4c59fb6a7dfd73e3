use Rattle.std.proofs.Common.{◌≡◌, ℕ, Some, None, take, Contains}
use Rattle.recognizer_model.specs.declared.thread.Thread.{Thread}
use Rattle.recognizer_model.specs.Threads.{next}
use Rattle.threads.specs.Steps.{IsReadBy}
use Rattle.threads.proofs.scan.is_read_at_begin.Given as goal

abbrev pub invariant-loop-thread : goal.invariant-loop-thread
invariant-loop-thread l = (th : Thread) (x : ℕ) → Contains (take l.thread-index l.row) th → th.label ≡ None → next l.flat th ≡ Some x → ¬ IsReadBy l.flat l.terminals x
