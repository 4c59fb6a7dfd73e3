use Rattle.std.proofs.Common.{ℕ, ◌<◌, Contains, take}
use Rattle.grammar_tests.proofs.lexemes.are_starts.Given as goal

abbrev pub invariant-loop-candidate : goal.invariant-loop-candidate
invariant-loop-candidate l = (k : ℕ) → Contains (take l.candidate-index l.candidates) k → k < l.starts
