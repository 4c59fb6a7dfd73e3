use Rattle.item_rows.proofs.Noting.{stands, stands_slotted}
use Rattle.item_rows.proofs.places.places_of.Goals as goal

pub returns-clause-own : goal.returns-clause-own
returns-clause-own c =
    stands_slotted c.args.slotted.now c.args.span c.requires.order c.first_of.result c.first_of-2.result c.count_below.result c.count_below-2.result c.first_of.ensures c.first_of-2.ensures
    c.count_below.ensures.bound c.count_below-2.ensures.bound c.count_below.ensures.below c.count_below.ensures.above c.count_below-2.ensures.below c.count_below-2.ensures.above

pub returns-clause-others : goal.returns-clause-others
returns-clause-others c =
    stands c.args.list.now c.args.span c.requires.order c.count.result c.count-2.result c.count.ensures.bound c.count-2.ensures.bound c.count.ensures.below c.count.ensures.above c.count-2.ensures.below c.count-2.ensures.above
