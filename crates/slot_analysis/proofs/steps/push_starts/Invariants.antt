use Rattle.slot_analysis.specs.Steps.{HasMore, IsOfStart}
use Rattle.slot_analysis.proofs.steps.push_starts.Given as goal

abbrev pub invariant-loop-k : goal.invariant-loop-k
invariant-loop-k l = HasMore l.initial.clauses l.clauses (IsOfStart l.w l.bases l.k)
