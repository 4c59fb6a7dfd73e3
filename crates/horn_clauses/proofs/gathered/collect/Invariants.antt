use Rattle.horn_clauses.proofs.Gathering.{IsCollected}
use Rattle.horn_clauses.proofs.gathered.collect.Given as goal

abbrev pub invariant-loop-next : goal.invariant-loop-next
invariant-loop-next l = IsCollected l.pairs l.x l.next l.row.items

abbrev pub decreases-loop-next : goal.decreases-loop-next
decreases-loop-next l = l.next
