use Rattle.std.proofs.Common.{refl}
use Rattle.slot_analysis.proofs.Asking.{asked_accessible, never_accessible, absent_level}
use Rattle.slot_analysis.proofs.analysis.Analysis.slot_accessible.Goals as goal

pub returns-then-not-is_level_at : goal.returns-then-not-is_level_at
returns-then-not-is_level_at c = absent_level c.self.inside.written.now c.self.inside.levels c.self.inside.tables.bases.items c.self.inside.tables.lefts.items c.self.inside.tables.nullable c.self.inside.tables.productive c.self.inside.tables.reach c.self.invariant
    c.args.self.now c.self.inside.levels c.args.s c.s.inside.0 c.args.level c.is_level_at.result c.self.view_is refl c.s.view_is c.if-not-is_level_at.true c.is_level_at.ensures

pub returns-in-Some : goal.returns-in-Some
returns-in-Some c = asked_accessible c.self.inside.written.now c.self.inside.levels c.self.inside.tables.bases.items c.self.inside.tables.lefts.items c.self.inside.tables.nullable c.self.inside.tables.productive c.self.inside.tables.reach c.self.invariant
    c.args.self.now c.self.inside.levels c.deref.result.now c.args.s c.s.inside.0 c.args.level c.place_at-place.result c.self.view_is refl c.deref.ensures.value c.s.view_is c.requires c.place_at-place.ensures c.in-Some.x c.has.result
    (c.is_level_at.ensures.0 c.if-not-is_level_at.false)
    c.in-Some.ensures.some c.has.ensures

pub returns-in-None : goal.returns-in-None
returns-in-None c = never_accessible c.self.inside.written.now c.self.inside.levels c.self.inside.tables.bases.items c.self.inside.tables.lefts.items c.self.inside.tables.nullable c.self.inside.tables.productive c.self.inside.tables.reach c.self.invariant
    c.args.self.now c.self.inside.levels c.deref.result.now c.args.s c.s.inside.0 c.args.level c.place_at-place.result c.self.view_is refl c.deref.ensures.value c.s.view_is c.requires c.place_at-place.ensures (c.in-None.ensures.none refl)
