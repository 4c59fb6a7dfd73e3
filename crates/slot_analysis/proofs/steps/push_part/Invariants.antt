use Rattle.slot_analysis.specs.Steps.{HasMore, IsOfPart}
use Rattle.slot_analysis.proofs.steps.push_part.Given as goal

abbrev pub invariant-loop-k : goal.invariant-loop-k
invariant-loop-k l = HasMore l.initial.clauses l.clauses (IsOfPart l.w l.bases l.total l.i l.k)
