use Rattle.std.proofs.Common.{take}
use Rattle.leo_items.proofs.Hiding.{AreFrom}
use Rattle.leo_items.proofs.hidden.put_from.Given as goal

abbrev pub invariant-loop-k : goal.invariant-loop-k
invariant-loop-k l = AreFrom l.from (take l.k l.items) l.set
