use Rattle.item_rows.proofs.Packing.{sorted_row, sorted_items}
use Rattle.item_rows.proofs.packed.pack_row.Goals as goal

pub returns-clause-row : goal.returns-clause-row
returns-clause-row c =
    sorted_row c.args.dotted.now.rules c.args.items.now c.pack_all.new.packed.items c.sort_unstable.new.self.items c.in_ok-pack_all.ensures.items c.in_ok-pack_all.ensures.within c.requires.once c.sort_unstable.ensures.permutation
    c.sort_unstable.ensures.sorted

pub returns-clause-same : goal.returns-clause-same
returns-clause-same c =
    sorted_items c.args.dotted.now.rules c.args.items.now c.pack_all.new.packed.items c.sort_unstable.new.self.items c.in_ok-pack_all.ensures.items c.in_ok-pack_all.ensures.within c.requires.once c.sort_unstable.ensures.permutation
    c.sort_unstable.ensures.sorted
