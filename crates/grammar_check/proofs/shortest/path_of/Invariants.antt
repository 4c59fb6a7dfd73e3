use Rattle.grammar_check.proofs.Choosing.{Partway}
use Rattle.grammar_check.proofs.shortest.path_of.Given as goal

abbrev pub invariant-loop-k : goal.invariant-loop-k
invariant-loop-k l = Partway l.rows l.floors l.to l.found l.starts l.layer l.k l.path.items l.x
