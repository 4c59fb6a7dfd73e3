use Rattle.std.proofs.Common.{subst}
use Rattle.slot_analysis.specs.Tested.{HasTests}
use Rattle.slot_analysis.proofs.Asking.{all_tested}
use Rattle.slot_analysis.proofs.analysis.Analysis.tested.Goals as goal

pub returns : goal.returns
returns c = subst HasTests c.self.view_is (all_tested c.self.inside.written.now c.self.inside.levels c.self.inside.tables.bases.items c.self.inside.tables.lefts.items c.self.inside.tables.nullable c.self.inside.tables.productive c.self.inside.tables.reach c.self.invariant)
