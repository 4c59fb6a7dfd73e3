use Rattle.std.proofs.Common.{ℕ, ◌<◌}
use Rattle.horn_clauses.specs.Least.{IsSearch, Waits}
use Rattle.horn_clauses.proofs.least.begin.Given as goal

abbrev pub invariant-loop-i : goal.invariant-loop-i
invariant-loop-i l = IsSearch l.clauses l.found l.places × ((j : ℕ) → j < l.i → Waits l.clauses l.found l.places 0 j)
