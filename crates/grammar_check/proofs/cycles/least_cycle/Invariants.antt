use Rattle.grammar_check.specs.Settled.{NoneBelow}
use Rattle.grammar_check.proofs.cycles.least_cycle.Given as goal

abbrev pub invariant-loop-x : goal.invariant-loop-x
invariant-loop-x l = NoneBelow l.rows l.floors l.x
