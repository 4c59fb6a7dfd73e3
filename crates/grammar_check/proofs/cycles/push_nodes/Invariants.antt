use Rattle.slot_analysis.specs.Steps.{HasMore}
use Rattle.grammar_check.specs.Settled.{IsOfNodes}
use Rattle.grammar_check.proofs.cycles.push_nodes.Given as goal

abbrev pub invariant-loop-y : goal.invariant-loop-y
invariant-loop-y l = HasMore l.initial.clauses l.clauses (IsOfNodes l.rows l.total l.y)
