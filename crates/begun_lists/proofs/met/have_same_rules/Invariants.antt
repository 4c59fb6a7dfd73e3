use Rattle.begun_lists.proofs.Meeting.{HaveSameTo}
use Rattle.begun_lists.proofs.met.have_same_rules.Given as goal

abbrev pub invariant-loop-k : goal.invariant-loop-k
invariant-loop-k l = HaveSameTo l.items l.others l.k
