use Rattle.std.proofs.Common.{◌≡◌, length}
use Rattle.horn_clauses.specs.Rows.{HasPlacesTo}
use Rattle.horn_clauses.proofs.least.occurrences.Given as goal

abbrev pub invariant-loop-i : goal.invariant-loop-i
invariant-loop-i l = (length l.gathered ≡ l.bound) × HasPlacesTo l.clauses l.gathered l.i
