use Rattle.std.proofs.Common.{sym, subst}
use Rattle.std.proofs.Common.{true, false}
use Rattle.slot_analysis.specs.Packed.{packed}
use Rattle.slot_analysis.specs.Clauses.{IsAnalysis}
use Rattle.slot_analysis.specs.Steps.{IsReach}
use Rattle.slot_analysis.proofs.analysis.Analysis.slots.Goals as goal

pub returns-clause-nullable : goal.returns-clause-nullable
returns-clause-nullable c = subst (λ g. IsAnalysis true (packed c.self.inside.levels g) c.deref.result.now c.self.inside.tables.nullable) c.self.view_is
    (subst (λ b. IsAnalysis true (packed c.self.inside.levels c.self.inside.written.now) b c.self.inside.tables.nullable) (sym c.deref.ensures.value) c.self.invariant.tables.nullable)

pub returns-clause-productive : goal.returns-clause-productive
returns-clause-productive c = subst (λ g. IsAnalysis false (packed c.self.inside.levels g) c.deref.result.now c.self.inside.tables.productive) c.self.view_is
    (subst (λ b. IsAnalysis false (packed c.self.inside.levels c.self.inside.written.now) b c.self.inside.tables.productive) (sym c.deref.ensures.value) c.self.invariant.tables.productive)

pub returns-clause-reach : goal.returns-clause-reach
returns-clause-reach c = subst (λ g. IsReach (packed c.self.inside.levels g) c.deref.result.now c.self.inside.tables.reach) c.self.view_is
    (subst (λ b. IsReach (packed c.self.inside.levels c.self.inside.written.now) b c.self.inside.tables.reach) (sym c.deref.ensures.value) c.self.invariant.tables.reached)
