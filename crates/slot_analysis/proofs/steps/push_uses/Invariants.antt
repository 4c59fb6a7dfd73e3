use Rattle.slot_analysis.specs.Steps.{HasMore, IsOfUse}
use Rattle.slot_analysis.proofs.steps.push_uses.Given as goal

abbrev pub invariant-loop-x : goal.invariant-loop-x
invariant-loop-x l = HasMore l.initial.clauses l.clauses (IsOfUse l.total l.x)
