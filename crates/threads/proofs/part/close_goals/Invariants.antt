use Rattle.threads.proofs.Goals.{LeftsTo}
use Rattle.threads.proofs.part.close_goals.Given as goal

abbrev pub invariant-loop-k : goal.invariant-loop-k
invariant-loop-k l = LeftsTo l.flat l.row l.initial.goals.items l.goals.items l.k
