use Rattle.std.proofs.Common.{◌∙◌, ap, map}
use Rattle.std.proofs.lemmas.List.{take_all}
use Rattle.item_rows.specs.Order.{item_of}
use Rattle.item_rows.proofs.order.list_items.Goals as goal

pub returns : goal.returns
returns c = c.loop-key.invariant ∙ ap (map item_of) (take_all c.loop-key.key-index c.args.keys.now c.loop-key-test.false)
