use Rattle.std.proofs.Common.{refl}
use Rattle.leo_items.proofs.Twice.{twice_some, twice_none, twice_before}
use Rattle.leo_items.proofs.hidden.steps_twice.Goals as goal

pub returns-in-Some : goal.returns-in-Some
returns-in-Some c = twice_some c.args.flat.now c.args.rows.now.sets c.args.earleme c.args.from c.args.item c.in-Some.step c.single_step-in-Some.result c.in-Some.ensures.some c.single_step-in-Some.ensures.some c.single_step-in-Some.ensures.none c.is_some.result c.is_some.ensures

pub returns-in-None : goal.returns-in-None
returns-in-None c = twice_none c.args.flat.now c.args.rows.now.sets c.args.earleme c.args.from c.args.item (c.in-None.ensures.none refl)

pub returns-then-item-from : goal.returns-then-item-from
returns-then-item-from c = twice_before c.args.flat.now c.args.rows.now.sets c.args.earleme c.args.from c.requires.rows.are c.args.item c.if-item-from.true
