use Rattle.std.proofs.Common.{take}
use Rattle.glade_groups.specs.Notes.{AreNotes}
use Rattle.glade_groups.proofs.notes.notes_of.Given as goal

abbrev pub invariant-loop-at : goal.invariant-loop-at
invariant-loop-at l = AreNotes (take l.at l.glades) l.notes
