use Rattle.std.proofs.Common.{◌≡◌, take, map}
use Rattle.item_rows.specs.Order.{row_key}
use Rattle.item_rows.proofs.order.list_keys.Given as goal

abbrev pub invariant-loop-item : goal.invariant-loop-item
invariant-loop-item l = l.keys.items ≡ map (row_key l.flat) (take l.item-index l.items)
