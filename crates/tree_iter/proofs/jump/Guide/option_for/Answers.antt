use Rattle.std.proofs.Common.{◌<◌, length, sym, subst}
use Rattle.grammar_core.specs.declared.steps.TreeStep.{TreeStep}
use Rattle.forest_laws.specs.Goals.{IsGoal}
use Rattle.tree_iter.specs.declared.goals.Fork.{Fork}
use Rattle.tree_iter.specs.declared.leads.LeadRow.{LeadRow}
use Rattle.tree_iter.specs.Goals.{fork_of}
use Rattle.tree_iter.specs.Leads.{IsLastRow, LeadsOn}
use Rattle.tree_iter.proofs.jump.Guide.option_for.Goals as goal

pub one_of-requires : goal.one_of-requires
one_of-requires g c = subst (λ (k : Fork). IsGoal c.args.walk.now.forest.now (fork_of k)) c.in-OneOf.is c.requires

pub returns-in-Parts-clause-leads : goal.returns-in-Parts-clause-leads
returns-in-Parts-clause-leads g c =
    subst (λ (k : Fork). (step : TreeStep) (row : LeadRow) → IsLastRow c.args.self.now.to.now c.args.self.now.rows.items c.args.aim step row → 0 < c.args.self.now.looks →
    LeadsOn c.args.walk.now.forest.now (fork_of k) step row (length c.args.walk.now.steps.items) c.args.aim c.parts.result) (sym c.in-Parts.is) c.parts.ensures.leads

pub returns-in-OneOf-clause-leads : goal.returns-in-OneOf-clause-leads
returns-in-OneOf-clause-leads g c =
    subst (λ (k : Fork). (step : TreeStep) (row : LeadRow) → IsLastRow c.args.self.now.to.now c.args.self.now.rows.items c.args.aim step row → 0 < c.args.self.now.looks →
    LeadsOn c.args.walk.now.forest.now (fork_of k) step row (length c.args.walk.now.steps.items) c.args.aim c.one_of.result) (sym c.in-OneOf.is) (λ step row last some. c.one_of.ensures.leads step row last)
