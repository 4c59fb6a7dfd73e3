use Rattle.std.proofs.Common.{◌≡◌, take, map}
use Rattle.item_rows.specs.Order.{item_of}
use Rattle.item_rows.proofs.order.list_items.Given as goal

abbrev pub invariant-loop-key : goal.invariant-loop-key
invariant-loop-key l = l.items.items ≡ map item_of (take l.key-index l.keys)
