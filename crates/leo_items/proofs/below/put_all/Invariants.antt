use Rattle.std.proofs.Common.{take}
use Rattle.leo_items.specs.Closed.{Grows}
use Rattle.leo_items.proofs.below.put_all.Given as goal

abbrev pub invariant-loop-item : goal.invariant-loop-item
invariant-loop-item l = Grows l.initial.set l.set (take l.item-index l.items)
