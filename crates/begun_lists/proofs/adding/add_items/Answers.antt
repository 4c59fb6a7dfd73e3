use Rattle.std.proofs.Common.{arith, subst}
use Rattle.leo_items.proofs.Growing.{Grows-more}
use Rattle.std.proofs.lemmas.List.{take_all}
use Rattle.begun_lists.specs.Closing.{Grows}
use Rattle.begun_lists.proofs.adding.add_items.Goals as goal

pub loop-item-preserved : goal.loop-item-preserved
loop-item-preserved g c = record {
  grows = Grows-more c.args.set.now c.loop-item.set c.add_item.new.set c.args.items.now c.loop-item.item-index (record { rule = 0; dot = 0; origin = 0 }) (omega arith) c.loop-item.invariant.grows c.in_ok-add_item.ensures.added;
  counted = (let s = c.in_ok-add_item.ensures.counted in let k = c.loop-item.invariant.counted in omega (arith, s, k));
}

pub returns-clause-grows : goal.returns-clause-grows
returns-clause-grows g c = subst (λ l. Grows c.args.set.now c.loop-item.set l) (take_all c.loop-item.item-index c.args.items.now c.loop-item-test.false) c.loop-item.invariant.grows
