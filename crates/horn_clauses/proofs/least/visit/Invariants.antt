use Rattle.std.proofs.Common.{take}
use Rattle.horn_clauses.specs.Least.{HasVisited}
use Rattle.horn_clauses.proofs.least.visit.Given as goal

abbrev pub invariant-loop-i : goal.invariant-loop-i
invariant-loop-i l = HasVisited l.clauses l.initial.found (take l.i-index l.row) l.k l.found l.places
