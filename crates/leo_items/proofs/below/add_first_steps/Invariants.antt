use Rattle.std.proofs.Common.{◌+◌, ◌++◌, length}
use Rattle.leo_items.specs.Walked.{IsWalked}
use Rattle.leo_items.proofs.below.add_first_steps.Given as goal

abbrev pub invariant-loop-item : goal.invariant-loop-item
invariant-loop-item l = IsWalked l.flat l.rows.sets l.earleme (l.tops ++ l.bottoms) l.below (length l.tops + l.item-index)
