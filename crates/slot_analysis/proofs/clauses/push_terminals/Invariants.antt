use Rattle.slot_analysis.specs.Slots.{HasTerminals}
use Rattle.slot_analysis.proofs.clauses.push_terminals.Given as goal

abbrev pub invariant-loop-s : goal.invariant-loop-s
invariant-loop-s l = HasTerminals l.bases l.lefts l.s l.initial.clauses l.clauses
