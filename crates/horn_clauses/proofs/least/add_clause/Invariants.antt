use Rattle.std.proofs.Common.{take}
use Rattle.horn_clauses.specs.Rows.{HasAddedAll}
use Rattle.horn_clauses.proofs.least.add_clause.Given as goal

abbrev pub invariant-loop-x : goal.invariant-loop-x
invariant-loop-x l = HasAddedAll l.initial.rows l.rows (take l.x-index l.body) l.clause
