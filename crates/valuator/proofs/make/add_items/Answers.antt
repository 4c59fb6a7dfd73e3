use Rattle.std.proofs.Common.{sym, append-nil, arith}
use Rattle.valuator.proofs.Grown.{items_more, grown_same, grown_through, are_ids-grown}
use Rattle.valuator.proofs.make.add_items.Goals as goal

pub loop-item-preserved : goal.loop-item-preserved
loop-item-preserved c = record {
  values = items_more _ _ c.args.parts.now c.args.items.now c.loop-item.item-index _ _ _ _ (omega arith) c.loop-item.invariant.grown c.requires.children c.loop-item.invariant.values c.in_ok-add_item.ensures.ok;
  ids = c.add_item.ensures.ids;
  children = are_ids-grown _ _ _ c.add_item.ensures.grown c.loop-item.invariant.children;
  grown = grown_through _ _ _ c.loop-item.invariant.grown c.add_item.ensures.grown;
}

pub loop-item-init : goal.loop-item-init
loop-item-init c = record { values = sym (append-nil _); ids = c.requires.ids; children = c.requires.children; grown = grown_same _ }

pub add_item-requires-clause-children : goal.add_item-requires-clause-children
add_item-requires-clause-children c = c.loop-item.invariant.children

pub add_item-requires-clause-ids : goal.add_item-requires-clause-ids
add_item-requires-clause-ids c = c.loop-item.invariant.ids

pub returns-in_err-add_item-clause-ids : goal.returns-in_err-add_item-clause-ids
returns-in_err-add_item-clause-ids c = c.add_item.ensures.ids

pub returns-in_err-add_item-clause-grown : goal.returns-in_err-add_item-clause-grown
returns-in_err-add_item-clause-grown c = grown_through _ _ _ c.loop-item.invariant.grown c.add_item.ensures.grown

pub returns-clause-ids : goal.returns-clause-ids
returns-clause-ids c = c.loop-item.invariant.ids

pub returns-clause-grown : goal.returns-clause-grown
returns-clause-grown c = c.loop-item.invariant.grown
