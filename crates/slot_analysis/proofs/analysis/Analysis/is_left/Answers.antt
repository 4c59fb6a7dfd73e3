use Rattle.slot_analysis.proofs.Asking.{asked_left}
use Rattle.slot_analysis.proofs.analysis.Analysis.is_left.Goals as goal

pub returns : goal.returns
returns c = asked_left c.self.inside.written.now c.self.inside.levels c.self.inside.tables.bases.items c.self.inside.tables.lefts.items c.self.inside.tables.nullable c.self.inside.tables.productive c.self.inside.tables.reach c.self.invariant
    c.args.self.now c.deref.result.now c.args.s c.s.inside.0 c.is_no_left.result c.self.view_is c.deref.ensures.value c.s.view_is c.is_no_left.ensures
