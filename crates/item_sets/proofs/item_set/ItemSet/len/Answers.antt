use Rattle.std.proofs.Common.{arith}
use Rattle.item_sets.proofs.item_set.ItemSet.len.Goals as goal

pub returns-clause-small : goal.returns-clause-small
returns-clause-small c =
    let size = c.len.ensures in
    let (is, within) = c.self.inside.items.ok in
    let small = c.self.inside.items.small in
    omega (arith, size, is, within, small)
