use Rattle.std.proofs.Common.{◌+◌, ◌++◌, length, arith, get_or}
use Rattle.finite_sets.proofs.Lists.{got_item}
use Rattle.recognizer_model.specs.declared.Item.{Item}
use Rattle.leo_items.proofs.Walking.{first_at, walked_more, walked_on}
use Rattle.leo_items.proofs.below.add_first_steps.Goals as goal

pub loop-item-init : goal.loop-item-init
loop-item-init c = walked_on c.args.flat.now c.args.rows.now.sets c.requires.rows.are c.args.earleme (c.args.tops.now ++ c.args.bottoms.now) c.args.below.now (length c.args.tops.now) (length c.args.tops.now + 0) (omega arith) c.requires.walked

pub add_step-requires-clause-rule : goal.add_step-requires-clause-rule
add_step-requires-clause-rule c =
    let d : Item = record { rule = 0; dot = 0; origin = 0 } in
    let at = first_at c.args.tops.now c.args.bottoms.now c.loop-item.below c.loop-item.item-index d (omega arith) in
    (c.loop-item.invariant.closed.items (get_or c.args.bottoms.now c.loop-item.item-index d) (got_item ((c.args.tops.now ++ c.args.bottoms.now) ++ c.loop-item.below) (length c.args.tops.now + c.loop-item.item-index) (get_or c.args.bottoms.now c.loop-item.item-index d) at)).is_rule

pub loop-item-preserved : goal.loop-item-preserved
loop-item-preserved c =
    let d : Item = record { rule = 0; dot = 0; origin = 0 } in
    let at = first_at c.args.tops.now c.args.bottoms.now c.loop-item.below c.loop-item.item-index d (omega arith) in
    walked_on c.args.flat.now c.args.rows.now.sets c.requires.rows.are c.args.earleme (c.args.tops.now ++ c.args.bottoms.now) c.add_step.new.below (length c.args.tops.now + c.loop-item.item-index + 1) (length c.args.tops.now + (c.loop-item.item-index + 1)) (omega arith)
    (walked_more c.args.flat.now c.args.rows.now.sets c.requires.rows.are c.args.earleme (c.args.tops.now ++ c.args.bottoms.now) c.loop-item.below c.add_step.new.below (length c.args.tops.now + c.loop-item.item-index) (get_or c.args.bottoms.now c.loop-item.item-index d) at c.loop-item.invariant c.in_ok-add_step.ensures)

pub returns : goal.returns
returns c =
    walked_on c.args.flat.now c.args.rows.now.sets c.requires.rows.are c.args.earleme (c.args.tops.now ++ c.args.bottoms.now) c.loop-item.below (length c.args.tops.now + c.loop-item.item-index) (length c.args.tops.now + length c.args.bottoms.now)
    (let le = c.loop-item-test.false in omega (arith, le)) c.loop-item.invariant
