use Rattle.std.proofs.Common.{subst}
use Rattle.slot_analysis.specs.Few.{FewAreAccessible}
use Rattle.slot_analysis.proofs.Few.{few_accessible}
use Rattle.slot_analysis.proofs.analysis.Analysis.few_accessible.Goals as goal

pub returns : goal.returns
returns c = subst FewAreAccessible c.self.view_is (few_accessible c.self.inside.written.now c.self.inside.levels c.self.inside.tables.bases.items c.self.inside.tables.lefts.items c.self.inside.tables.nullable c.self.inside.tables.productive c.self.inside.tables.reach c.self.invariant)
