use Rattle.std.proofs.Common.{suc}
use Rattle.slot_analysis.specs.Steps.{HasMore, IsOfNext}
use Rattle.slot_analysis.proofs.steps.push_next.Given as goal

abbrev pub invariant-loop-x : goal.invariant-loop-x
invariant-loop-x l = HasMore l.initial.clauses l.clauses (IsOfNext l.total l.from (suc l.x))
