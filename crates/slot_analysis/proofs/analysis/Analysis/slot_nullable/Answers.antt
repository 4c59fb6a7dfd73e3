use Rattle.std.proofs.Common.{refl}
use Rattle.slot_analysis.proofs.Asking.{asked_nullable, never_nullable}
use Rattle.slot_analysis.proofs.analysis.Analysis.slot_nullable.Goals as goal

pub returns-in-Some : goal.returns-in-Some
returns-in-Some c = asked_nullable c.self.inside.written.now c.self.inside.levels c.self.inside.tables.bases.items c.self.inside.tables.lefts.items c.self.inside.tables.nullable c.self.inside.tables.productive c.self.inside.tables.reach c.self.invariant
    c.args.self.now c.self.inside.levels c.deref.result.now c.args.s c.s.inside.0 c.args.level c.place_at-place.result c.self.view_is refl c.deref.ensures.value c.s.view_is c.requires c.place_at-place.ensures c.in-Some.x c.has.result c.in-Some.ensures.some c.has.ensures

pub returns-in-None : goal.returns-in-None
returns-in-None c = never_nullable c.self.inside.written.now c.self.inside.levels c.self.inside.tables.bases.items c.self.inside.tables.lefts.items c.self.inside.tables.nullable c.self.inside.tables.productive c.self.inside.tables.reach c.self.invariant
    c.args.self.now c.self.inside.levels c.deref.result.now c.args.s c.s.inside.0 c.args.level c.place_at-place.result c.self.view_is refl c.deref.ensures.value c.s.view_is c.requires c.place_at-place.ensures (c.in-None.ensures.none refl)
