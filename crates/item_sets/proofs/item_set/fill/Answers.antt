use Rattle.std.proofs.Common.{List, sym, subst, arith}
use Rattle.recognizer_model.specs.declared.Item.{Item}
use Rattle.item_sets.specs.Held.{HasFirst}
use Rattle.item_sets.proofs.Holding.{first_more}
use Rattle.item_sets.proofs.item_set.fill.Goals as goal

pub loop-count-init : goal.loop-count-init
loop-count-init c = record { within = c.requires.within; first = c.requires.first }

pub loop-count-preserved : goal.loop-count-preserved
loop-count-preserved c =
    let lt = c.loop-count-test.true in
    record {
      within = omega arith;
      first = first_more c.loop-count.table.keys c.put.new.table.keys c.args.items.now c.loop-count.count (record { rule = 0; dot = 0; origin = 0 }) lt c.loop-count.invariant.first c.in-Ok.ensures.ok;
    }

pub returns-in-Err-clause-first : goal.returns-in-Err-clause-first
returns-in-Err-clause-first c = subst (λ (l : List Item). HasFirst l c.args.items.now c.loop-count.count) (sym c.in-Err.ensures.err) c.loop-count.invariant.first
