use Rattle.std.proofs.Common.{◌∙◌, ap, List, map}
use Rattle.item_rows.specs.declared.order.RowKey.{RowKey}
use Rattle.item_rows.specs.Order.{item_of}
use Rattle.item_rows.proofs.Sorting.{sorted_order, sorted_same, sorted_once}
use Rattle.item_rows.proofs.order.list_sorted.Goals as goal

pub returns-clause-order : goal.returns-clause-order
returns-clause-order c =
    sorted_order c.args.flat.now c.args.items.now c.list_keys.new.keys.items c.sort_unstable.new.self.items c.list_items.new.items.items c.in_ok-list_keys.ensures c.sort_unstable.ensures.permutation c.sort_unstable.ensures.sorted
    (c.in_ok-list_items.ensures ∙ ap (λ (l : List RowKey). map item_of l) c.deref.ensures.value)

pub returns-clause-same : goal.returns-clause-same
returns-clause-same c =
    sorted_same c.args.flat.now c.args.items.now c.list_keys.new.keys.items c.sort_unstable.new.self.items c.list_items.new.items.items c.in_ok-list_keys.ensures c.sort_unstable.ensures.permutation c.sort_unstable.ensures.sorted
    (c.in_ok-list_items.ensures ∙ ap (λ (l : List RowKey). map item_of l) c.deref.ensures.value)

pub returns-clause-once : goal.returns-clause-once
returns-clause-once c =
    sorted_once c.args.flat.now c.args.items.now c.list_keys.new.keys.items c.sort_unstable.new.self.items c.list_items.new.items.items c.in_ok-list_keys.ensures c.sort_unstable.ensures.permutation c.sort_unstable.ensures.sorted
    (c.in_ok-list_items.ensures ∙ ap (λ (l : List RowKey). map item_of l) c.deref.ensures.value)
