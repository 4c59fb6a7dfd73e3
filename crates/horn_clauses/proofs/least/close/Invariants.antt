use Rattle.std.proofs.Common.{ℕ, ◌<◌, ◌≤◌, length}
use Rattle.horn_clauses.specs.Least.{IsSearch, Waits}
use Rattle.horn_clauses.proofs.least.close.Given as goal

abbrev pub invariant-loop-k : goal.invariant-loop-k
invariant-loop-k l = IsSearch l.clauses l.found l.places × ((i : ℕ) → i < length l.clauses → Waits l.clauses l.found l.places l.k i) × (l.k ≤ length l.found)
