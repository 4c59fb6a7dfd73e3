use Rattle.std.proofs.Common.{false, ◌≡◌, ◌∙◌, List, Some, sym, ap, subst, arith}
use Rattle.std.proofs.lemmas.List.{take_all}
use Rattle.indexmap.specs.IndexMap.{get}
use Rattle.glade_model.specs.Glades.{Glade}
use Rattle.glade_groups.specs.declared.kinds.Kind.{Kind}
use Rattle.glade_groups.specs.Groups.{kind_of, same_kind}
use Rattle.glade_groups.specs.Notes.{IsNote}
use Rattle.glade_groups.proofs.Noting.{notes_step}
use Rattle.glade_groups.proofs.notes.notes_of.Goals as goal

pub loop-at-preserved : goal.loop-at-preserved
loop-at-preserved c =
    let g = c.index-glades-at.result in
    let old = get same_kind c.loop-at.notes in
    let new = get same_kind c.insert.new.self in
    let updates = c.in_ok-insert.ensures.updates in
    let is : c.kind_of-kind.result ≡ kind_of g = c.kind_of-kind.ensures in
    let found : c.note_of.result ≡ old (kind_of g) = c.note_of.ensures ∙ ap old is in
    notes_step c.args.glades.now c.loop-at.at g old new c.renewed-note.result c.loop-at-test.true c.index-glades-at.is c.loop-at.invariant
    (λ before at note. c.renewed-note.ensures before at (subst (IsNote before (kind_of g)) (sym found) note))
    (subst (λ (x : Kind). new x ≡ Some c.renewed-note.result) is updates.1)
    (λ x apart. updates.2 x (subst (λ (y : Kind). same_kind y x ≡ false) (sym is) apart))

pub returns : goal.returns
returns c = λ kind.
    subst (λ (l : List Glade). IsNote l kind (get same_kind c.loop-at.notes kind)) (take_all c.loop-at.at c.args.glades.now (omega (arith, c.loop-at-test.false))) (c.loop-at.invariant kind)
