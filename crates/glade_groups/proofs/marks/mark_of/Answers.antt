use Rattle.std.proofs.Common.{◌∙◌, sym, ap, subst}
use Rattle.indexmap.specs.IndexMap.{get}
use Rattle.glade_groups.specs.Groups.{kind_of, same_kind}
use Rattle.glade_groups.specs.Notes.{IsNote}
use Rattle.glade_groups.proofs.Noting.{told_for}
use Rattle.glade_groups.proofs.marks.mark_of.Goals as goal

pub returns-in-Some : goal.returns-in-Some
returns-in-Some c = λ glades notes got.
    let g = c.args.glade.now in
    let found = ap (get same_kind c.args.notes.now) (sym c.kind_of.ensures) ∙ (sym c.note_of.ensures ∙ c.in-Some.is) in
    told_for glades g c.args.at c.saturating_sub.result c.in-Some.note c.if-note-at.true c.saturating_sub.ensures got
    (subst (IsNote glades (kind_of g)) found (notes (kind_of g)))
