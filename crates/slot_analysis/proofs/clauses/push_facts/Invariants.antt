use Rattle.slot_analysis.specs.Slots.{HasFacts}
use Rattle.slot_analysis.proofs.clauses.push_facts.Given as goal

abbrev pub invariant-loop-x : goal.invariant-loop-x
invariant-loop-x l = HasFacts l.initial.clauses l.clauses l.from l.x
