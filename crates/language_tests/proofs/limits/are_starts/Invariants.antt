use Rattle.std.proofs.Common.{ℕ, ◌<◌, Contains, take}
use Rattle.language_tests.proofs.limits.are_starts.Given as goal

abbrev pub invariant-loop-candidate : goal.invariant-loop-candidate
invariant-loop-candidate l = (k : ℕ) → Contains (take l.candidate-index l.candidates) k → k < l.starts
