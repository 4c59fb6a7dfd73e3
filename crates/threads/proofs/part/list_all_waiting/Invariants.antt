use Rattle.std.proofs.Common.{◌≡◌, ◌↔◌, Some, ℕ, take, Contains}
use Rattle.recognizer_model.specs.declared.thread.Thread.{Thread}
use Rattle.recognizer_model.specs.Threads.{next}
use Rattle.threads.proofs.part.list_all_waiting.Given as goal

abbrev pub invariant-loop-goal : goal.invariant-loop-goal
invariant-loop-goal l = (th : Thread) → Contains l.part.items th ↔ (Contains l.ordered th × ((x : ℕ) × (next l.flat th ≡ Some x) × Contains (take l.goal-index l.goals) x))
