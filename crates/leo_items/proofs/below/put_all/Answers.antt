use Rattle.std.proofs.Common.{arith, subst}
use Rattle.std.proofs.lemmas.List.{take_all}
use Rattle.leo_items.specs.Closed.{Grows}
use Rattle.leo_items.proofs.Growing.{Grows-more}
use Rattle.leo_items.proofs.below.put_all.Goals as goal

pub loop-item-preserved : goal.loop-item-preserved
loop-item-preserved c =
    Grows-more c.args.set.now c.loop-item.set c.insert.new.self c.args.items.now c.loop-item.item-index (record { rule = 0; dot = 0; origin = 0 }) (omega arith) c.loop-item.invariant
    c.in_ok-insert.ensures.ok

pub returns : goal.returns
returns c = subst (λ l. Grows c.args.set.now c.loop-item.set l) (take_all c.loop-item.item-index c.args.items.now c.loop-item-test.false) c.loop-item.invariant
