use Rattle.std.proofs.Common.{◌≡◌, ℕ, ◌<◌, Some}
use Rattle.std.specs.Prelude.{slice_get}
use Rattle.grammar_core.specs.declared.steps.TreeStep.{TreeStep}
use Rattle.grammar_core.specs.Steps.{step_of}
use Rattle.bocage.specs.Readers.{node_at}
use Rattle.tree_iter.specs.declared.leads.LeadRow.{LeadRow}
use Rattle.tree_iter.specs.Leads.{IsLastRow, IsTold}
use Rattle.tree_iter.proofs.jump.Guide.node_for.Given as goal

abbrev pub invariant-loop-k : goal.invariant-loop-k
invariant-loop-k l = (step : TreeStep) (row : LeadRow) (j m : ℕ) → IsLastRow l.self.to.now l.self.rows.items l.aim step row → j < l.k → slice_get l.nodes j ≡ Some m →
    IsTold l.forest (node_at l.forest m).key (step_of step) row.below l.done → ⊥
