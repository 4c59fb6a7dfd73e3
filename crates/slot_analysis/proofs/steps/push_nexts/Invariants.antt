use Rattle.slot_analysis.specs.Steps.{HasMore, IsOfNexts}
use Rattle.slot_analysis.proofs.steps.push_nexts.Given as goal

abbrev pub invariant-loop-s : goal.invariant-loop-s
invariant-loop-s l = HasMore l.initial.clauses l.clauses (IsOfNexts l.bases l.total l.s)
