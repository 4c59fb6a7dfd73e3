use Rattle.std.proofs.Common.{List, Contains, sym, subst}
use Rattle.finite_sets.proofs.Lists.{Contains-map}
use Rattle.jagged.specs.Rows.{row_at}
use Rattle.scanless.specs.declared.notes.Note.{Note}
use Rattle.scanless.specs.Noted.{Noted, told}
use Rattle.scanless.proofs.notes.Notes.find.Goals as goal

pub row-requires : goal.row-requires
row-requires c = c.self.invariant c.in_ok-note.note (subst (λ (l : List Note). Contains l c.in_ok-note.note) c.deref.ensures.value c.in_ok-note.ensures)

pub returns-then-note-alike : goal.returns-then-note-alike
returns-then-note-alike c =
    let held = Contains-map (λ (n : Note). (n.place, row_at c.self.inside.lists n.list)) c.self.inside.notes.items c.in_ok-note.note (subst (λ (l : List Note). Contains l c.in_ok-note.note) c.deref.ensures.value c.in_ok-note.ensures) in
    subst (λ (v : Noted). Contains v.lists (c.args.alike.place, c.row.result.now)) c.self.view_is
    (subst (λ place. Contains (told c.self.inside.lists c.self.inside.notes.items) (place, c.row.result.now)) c.if-note-alike.true
    (subst (λ row. Contains (told c.self.inside.lists c.self.inside.notes.items) (c.in_ok-note.note.place, row)) (sym c.row.ensures) held))
