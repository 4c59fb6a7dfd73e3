use Rattle.std.proofs.Common.{take}
use Rattle.plain_lister.specs.Told.{AreValuesTold}
use Rattle.plain_lister.proofs.list.values_of.Given as goal

abbrev pub invariant-loop-i : goal.invariant-loop-i
invariant-loop-i l = AreValuesTold l.told (take l.i l.trees) l.ids.items
