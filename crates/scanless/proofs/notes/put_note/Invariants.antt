use Rattle.std.proofs.Common.{◌≡◌, ◌⊎◌, Contains}
use Rattle.scanless.specs.declared.notes.Note.{Note as ANote}
use Rattle.scanless.proofs.notes.put_note.Given as goal

abbrev pub invariant-loop : goal.invariant-loop
invariant-loop l = (other : ANote) → Contains l.notes.items other → Contains l.initial.notes.items other ⊎ (other ≡ l.note)
