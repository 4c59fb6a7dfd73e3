use Rattle.std.proofs.Common.{◌≡◌, subst, arith}
use Rattle.item_sets.specs.Held.{HasFirst}
use Rattle.item_sets.proofs.Holding.{held_none, marked_none}
use Rattle.item_sets.proofs.item_set.ItemSet.clear.Goals as goal

pub invariant_of-self : goal.invariant_of-self
invariant_of-self c =
    let test = c.if-self-eq0.true in
    let none : c.self.inside.filled ≡ 0 = omega arith in (
      held_none c.clear.new.self.items c.self.inside.table.keys c.self.inside.filled 4294967295 c.clear.ensures.items none
          (subst (HasFirst c.self.inside.table.keys c.self.inside.items.items) none c.self.invariant.0.first),
      marked_none c.unmark.new.marks.items c.clear.new.self.items c.clear.ensures.items,
    )
