use Rattle.std.proofs.Common.{take, Contains}
use Rattle.item_sets.proofs.item_set.is_among.Given as goal

abbrev pub invariant-loop-other : goal.invariant-loop-other
invariant-loop-other l = ¬ Contains (take l.other-index l.items) l.item
