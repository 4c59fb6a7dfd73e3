use Rattle.std.proofs.Common.{◌+◌, ◌++◌, length}
use Rattle.leo_items.specs.Walked.{IsWalked}
use Rattle.leo_items.proofs.below.add_later_steps.Given as goal

abbrev pub invariant-loop-k : goal.invariant-loop-k
invariant-loop-k l = IsWalked l.flat l.rows.sets l.earleme (l.tops ++ l.bottoms) l.below (length l.tops + length l.bottoms + l.k)
