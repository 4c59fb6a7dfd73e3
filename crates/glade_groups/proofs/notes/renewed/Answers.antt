use Rattle.std.proofs.Common.{◌∙◌, refl, sym, ap, subst, arith}
use Rattle.glade_groups.specs.declared.notes.Note.{Note}
use Rattle.glade_groups.specs.Groups.{kind_of}
use Rattle.glade_groups.specs.Notes.{IsNote}
use Rattle.glade_groups.proofs.Noting.{same_self, first_noted, smaller_noted, greater_noted, few, some_same}
use Rattle.glade_groups.proofs.notes.renewed.Goals as goal

pub returns-in-None : goal.returns-in-None
returns-in-None c = λ glades at note.
    let x = kind_of c.args.glade.now in
    first_noted glades c.args.glade.now x (same_self x) _ at c.token_count-tokens.ensures refl (subst (IsNote glades x) c.in-None.is note)

pub returns-in-Some : goal.returns-in-Some
returns-in-Some c = λ glades at note.
    let x = kind_of c.args.glade.now in
    let noted = subst (IsNote glades x) c.in-Some.is note in
    let fits = few glades x in
    smaller_noted glades c.args.glade.now x (same_self x) c.in-Some.note _ at c.token_count-tokens.ensures c.if-tokens-note.true
    (omega (arith, c.saturating_add.ensures, fits, noted.2, at, c.requires)) noted

pub returns-in-Some-2 : goal.returns-in-Some-2
returns-in-Some-2 c = λ glades at note.
    let x = kind_of c.args.glade.now in
    let noted = subst (IsNote glades x) c.in-Some-2.is note in
    let fits = few glades x in
    let same = some_same (sym c.in-Some.is ∙ c.in-Some-2.is) in
    let tokens = ap (λ (n : Note). n.tokens) same in
    greater_noted glades c.args.glade.now x (same_self x) c.in-Some-2.note (record { at = c.in-Some-2.note.at; tokens = c.in-Some-2.note.tokens; count = c.saturating_add-in-Some-2.result })
    refl refl (omega (arith, c.token_count-tokens.ensures, c.if-tokens-note.false, tokens))
    (omega (arith, c.saturating_add-in-Some-2.ensures, fits, noted.2, at, c.requires)) noted
