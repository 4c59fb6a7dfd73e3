use Rattle.std.proofs.Common.{ap}
use Rattle.slot_analysis.specs.Packed.{packed}
use Rattle.slot_analysis.proofs.Asking.{asked_some}
use Rattle.slot_analysis.proofs.Beyond.{last_order, last_is}
use Rattle.slot_analysis.proofs.analysis.Analysis.accessible.Goals as goal

pub last_use-x-requires-clause-order : goal.last_use-x-requires-clause-order
last_use-x-requires-clause-order c = last_order (packed c.self.inside.levels c.self.inside.written.now) (packed c.self.inside.levels c.args.self.now) c.self.inside.tables.bases.items c.deref.result.now c.args.s c.s.inside.0 (ap (packed c.self.inside.levels) c.self.view_is) c.deref.ensures.value c.s.view_is c.self.invariant.tables.numbering c.requires

pub returns : goal.returns
returns c = asked_some c.self.inside.written.now c.self.inside.levels c.self.inside.tables.bases.items c.self.inside.tables.lefts.items c.self.inside.tables.nullable c.self.inside.tables.productive c.self.inside.tables.reach c.self.invariant
    c.args.self.now c.last_use-x.result c.args.s c.has.result c.self.view_is c.requires
    (last_is (packed c.self.inside.levels c.self.inside.written.now) c.self.inside.tables.bases.items c.deref.result.now c.last_use-x.result c.args.s c.s.inside.0 c.deref.ensures.value c.s.view_is c.self.invariant.tables.numbering c.last_use-x.ensures)
    c.has.ensures
