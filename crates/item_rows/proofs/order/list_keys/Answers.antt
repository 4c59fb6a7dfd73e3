use Rattle.std.proofs.Common.{◌∙◌, ap, map}
use Rattle.std.proofs.lemmas.List.{take_all}
use Rattle.item_rows.specs.Order.{row_key}
use Rattle.item_rows.proofs.order.list_keys.Goals as goal

pub returns : goal.returns
returns c = c.loop-item.invariant ∙ ap (map (row_key c.args.flat.now)) (take_all c.loop-item.item-index c.args.items.now c.loop-item-test.false)
