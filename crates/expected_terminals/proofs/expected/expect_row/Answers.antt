use Rattle.std.proofs.Common.{List, Option, Some, Contains, subst, arith}
use Rattle.recognizer_model.specs.Flat.{FlatGrammar}
use Rattle.item_rows.specs.Rows.{row_at}
use Rattle.expected_terminals.specs.Expected.{WaitAlike}
use Rattle.expected_terminals.specs.declared.expected.Note.{Note}
use Rattle.expected_terminals.proofs.Expecting.{terminals_same, at_last, most_more}
use Rattle.expected_terminals.proofs.expected.expect_row.Goals as goal

pub find_note-requires-clause-place : goal.find_note-requires-clause-place
find_note-requires-clause-place c = let l = c.requires.last in omega arith

pub find_note-requires-clause-places : goal.find_note-requires-clause-places
find_note-requires-clause-places c note h = (c.requires.notes note (subst (λ (l : List (Option Note)). Contains l (Some note)) c.deref.ensures.value h)).like

pub returns-in-Some : goal.returns-in-Some
returns-in-Some c =
    let is = c.requires.notes c.in-Some.note (subst (λ (l : List (Option Note)). Contains l (Some c.in-Some.note)) c.deref.ensures.value c.in-Some.ensures.there) in
    let alike = subst (λ (g : FlatGrammar). WaitAlike g (row_at c.args.rows.now.sets c.in-Some.note.like) (row_at c.args.rows.now.sets c.args.j)) c.requires.flat c.in-Some.ensures.alike in
    record {
      room = c.requires.room;
      most = most_more c.args.j _ c.args.expected.now.marks.rows.items (let l = c.requires.last in omega arith) c.requires.most;
      notes = c.requires.notes;
      note = λ note e. c.requires.notes note (subst (λ (o : Option Note). Contains c.args.expected.now.notes.items o) e (subst (λ (l : List (Option Note)). Contains l (Some c.in-Some.note)) c.deref.ensures.value c.in-Some.ensures.there));
      last = at_last c.args.flat.now c.args.rows.now.sets c.args.j _ c.requires.last (terminals_same c.args.flat.now (row_at c.args.rows.now.sets c.in-Some.note.like) (row_at c.args.rows.now.sets c.args.j) _ alike is.are_like);
    }
