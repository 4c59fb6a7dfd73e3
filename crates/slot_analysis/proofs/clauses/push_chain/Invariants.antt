use Rattle.slot_analysis.specs.Slots.{HasChain}
use Rattle.slot_analysis.proofs.clauses.push_chain.Given as goal

abbrev pub invariant-loop-next : goal.invariant-loop-next
invariant-loop-next l = HasChain l.initial.clauses l.clauses l.from l.next
