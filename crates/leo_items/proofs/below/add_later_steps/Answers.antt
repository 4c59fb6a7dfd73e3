use Rattle.std.proofs.Common.{◌+◌, ◌++◌, length, arith, length-append}
use Rattle.finite_sets.proofs.Lists.{got_item}
use Rattle.leo_items.proofs.Loops.{got_none}
use Rattle.leo_items.proofs.Walking.{later_at, walked_more, walked_on}
use Rattle.leo_items.proofs.below.add_later_steps.Goals as goal

pub loop-k-init : goal.loop-k-init
loop-k-init c = walked_on c.args.flat.now c.args.rows.now.sets c.requires.rows.are c.args.earleme (c.args.tops.now ++ c.args.bottoms.now) c.args.below.now (length c.args.tops.now + length c.args.bottoms.now) (length c.args.tops.now + length c.args.bottoms.now + 0) (omega arith) c.requires.walked

pub add_step-requires-clause-rule : goal.add_step-requires-clause-rule
add_step-requires-clause-rule c =
    (c.loop-k.invariant.closed.items c.in-Some.item (got_item ((c.args.tops.now ++ c.args.bottoms.now) ++ c.loop-k.below) (length c.args.tops.now + length c.args.bottoms.now + c.loop-k.k) c.in-Some.item
    (later_at c.args.tops.now c.args.bottoms.now c.loop-k.below c.loop-k.k c.in-Some.item c.in-Some.ensures.item))).is_rule

pub loop-k-preserved : goal.loop-k-preserved
loop-k-preserved c =
    walked_on c.args.flat.now c.args.rows.now.sets c.requires.rows.are c.args.earleme (c.args.tops.now ++ c.args.bottoms.now) c.add_step.new.below (length c.args.tops.now + length c.args.bottoms.now + c.loop-k.k + 1) (length c.args.tops.now + length c.args.bottoms.now + (c.loop-k.k + 1)) (omega arith)
    (walked_more c.args.flat.now c.args.rows.now.sets c.requires.rows.are c.args.earleme (c.args.tops.now ++ c.args.bottoms.now) c.loop-k.below c.add_step.new.below (length c.args.tops.now + length c.args.bottoms.now + c.loop-k.k) c.in-Some.item
    (later_at c.args.tops.now c.args.bottoms.now c.loop-k.below c.loop-k.k c.in-Some.item c.in-Some.ensures.item) c.loop-k.invariant c.in_ok-add_step.ensures)

pub returns-in_default : goal.returns-in_default
returns-in_default c =
    let two = length-append c.args.tops.now c.args.bottoms.now in
    let all = length-append (c.args.tops.now ++ c.args.bottoms.now) c.loop-k.below in
    let within = c.loop-k.invariant.closed.within in
    let none = got_none c.loop-k.below c.loop-k.k c.in_default.ensures.item in
    walked_on c.args.flat.now c.args.rows.now.sets c.requires.rows.are c.args.earleme (c.args.tops.now ++ c.args.bottoms.now) c.loop-k.below (length c.args.tops.now + length c.args.bottoms.now + c.loop-k.k) (length c.args.tops.now + length c.args.bottoms.now + length c.loop-k.below)
    (omega (arith, two, all, within, none)) c.loop-k.invariant
