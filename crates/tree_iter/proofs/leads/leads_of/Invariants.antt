use Rattle.std.proofs.Common.{map, take}
use Rattle.grammar_core.specs.Steps.{step_of}
use Rattle.tree_iter.specs.Leads.{AreRows}
use Rattle.tree_iter.proofs.leads.leads_of.Given as goal

abbrev pub invariant-loop-step : goal.invariant-loop-step
invariant-loop-step l = AreRows l.rows.items (map step_of (take l.step-index l.to))
