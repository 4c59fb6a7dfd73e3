use Rattle.grammar_check.proofs.Choosing.{Chosen}
use Rattle.grammar_check.proofs.shortest.least_next.Given as goal

abbrev pub invariant-loop-j : goal.invariant-loop-j
invariant-loop-j l = Chosen l.rows l.floors l.found l.from l.j l.x l.best
