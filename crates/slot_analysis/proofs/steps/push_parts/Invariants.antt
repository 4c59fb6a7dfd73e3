use Rattle.slot_analysis.specs.Steps.{HasMore, IsOfParts}
use Rattle.slot_analysis.proofs.steps.push_parts.Given as goal

abbrev pub invariant-loop-i : goal.invariant-loop-i
invariant-loop-i l = HasMore l.initial.clauses l.clauses (IsOfParts l.w l.bases l.total l.i)
