use Rattle.slot_analysis.specs.Steps.{HasMore}
use Rattle.grammar_check.specs.Settled.{IsOfUses}
use Rattle.grammar_check.proofs.cycles.push_ties.Given as goal

abbrev pub invariant-loop-y : goal.invariant-loop-y
invariant-loop-y l = HasMore l.initial.clauses l.clauses (IsOfUses l.floors l.total l.y)
