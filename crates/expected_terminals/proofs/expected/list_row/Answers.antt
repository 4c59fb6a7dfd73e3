use Rattle.std.proofs.Common.{◌+◌, ◌-◌, ◌<◌, length, inl, inr, ap, sym, subst, refl, arith}
use Rattle.expected_terminals.specs.Marks.{HasRoom, AreAtMost}
use Rattle.expected_terminals.specs.Expected.{NotesTerminals, IsOfListed}
use Rattle.expected_terminals.specs.declared.expected.Note.{Note}
use Rattle.expected_terminals.specs.declared.marks.Marks.{Marks}
use Rattle.item_rows.specs.Rows.{row_at}
use Rattle.expected_terminals.proofs.Expecting.{at_last, most_more, note_moved, note_new, of_some, each_some, right_told, last_told}
use Rattle.expected_terminals.proofs.expected.list_row.Goals as goal

pub mark_row-requires-clause-place : goal.mark_row-requires-clause-place
mark_row-requires-clause-place c = let l = c.requires.last in omega arith

pub note_listed-expected-requires : goal.note_listed-expected-requires
note_listed-expected-requires c =
    each_some c.told_before-told.result (NotesTerminals c.args.flat.now c.args.rows.now.sets c.args.expected.now.lists) (λ note. note.list < length c.args.expected.now.lists) (λ note is. is.list)
    (right_told c.args.flat.now c.args.rows.now.sets c.args.expected.now.lists c.args.expected.now.notes.items c.deref.result.now c.told_before-told.result c.deref.ensures.value c.requires.notes c.told_before-told.ensures)

pub returns : goal.returns
returns c =
    let g = c.args.flat.now in
    let sets = c.args.rows.now.sets in
    let old = c.args.expected.now.lists in
    let new = c.note_listed-expected.new.expected.lists in
    let listed = c.mark_row.new.marks.listed.items in
    let told = c.note_listed-expected.ensures.note in
    let right = right_told c.args.flat.now c.args.rows.now.sets c.args.expected.now.lists c.args.expected.now.notes.items c.deref.result.now c.told_before-told.result c.deref.ensures.value c.requires.notes c.told_before-told.ensures in
    let newest = note_new g sets old new c.told_before-told.result c.args.j listed c.requires.last right c.mark_row.ensures.listed in
    record {
      room = subst (λ (m : Marks). HasRoom g m) (sym c.note_listed-expected.ensures.marks) c.mark_row.ensures.room;
      most = subst (λ (m : Marks). AreAtMost (length sets) m.rows.items) (sym c.note_listed-expected.ensures.marks) (most_more (c.args.j + 1) (length sets) c.mark_row.new.marks.rows.items (let l = c.requires.last in omega arith) c.mark_row.ensures.most);
      notes = λ note h. (elim (c.note_listed-expected.ensures.notes note h) [
        | inl o ↦ note_moved g sets sets old new note (λ j lt. (lt, refl)) c.note_listed-expected.ensures.lists (c.requires.notes note o)
        | inr e ↦ newest note (of_some c.note_listed-expected.result (IsOfListed old new listed c.told_before-told.result c.args.j) note told e)
      ]);
      note = λ note e. newest note (of_some c.note_listed-expected.result (IsOfListed old new listed c.told_before-told.result c.args.j) note told e);
      last = last_told g sets old new c.told_before-told.result c.args.j listed c.requires.last right c.mark_row.ensures.listed (row_at sets (length sets - 1)) c.note_listed-expected.new.expected.marks.listed.items c.note_listed-expected.result
          (ap (λ (m : Marks). m.listed.items) c.note_listed-expected.ensures.marks) told (at_last g sets c.args.j listed c.requires.last c.mark_row.ensures.listed);
    }
