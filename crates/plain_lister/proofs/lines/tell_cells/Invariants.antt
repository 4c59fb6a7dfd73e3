use Rattle.std.proofs.Common.{take}
use Rattle.plain_lister.specs.Told.{AllTold}
use Rattle.plain_lister.proofs.lines.tell_cells.Given as goal

abbrev pub invariant-loop-i : goal.invariant-loop-i
invariant-loop-i l = AllTold l.list l.pool l.told.items (take l.i l.list.cells.items)
