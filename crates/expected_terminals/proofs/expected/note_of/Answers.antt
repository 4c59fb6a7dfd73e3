use Rattle.std.proofs.Common.{◌<◌, ◌∙◌, length, inl, inr, refl, ap, arith}
use Rattle.jagged.specs.Rows.{row_at as list_at}
use Rattle.expected_terminals.proofs.Expecting.{of_some, one_list_more}
use Rattle.expected_terminals.proofs.expected.note_of.Goals as goal

pub returns-in-Some-clause-note : goal.returns-in-Some-clause-note
returns-in-Some-clause-note c = record {
  like = refl;
  list = of_some c.args.told (λ note. note.list < length c.args.lists.now) c.in-Some.note c.requires c.in-Some.ensures.0;
  same = c.in-Some.ensures.1;
  place = inr (c.in-Some.note, c.in-Some.ensures.0, c.in-Some.ensures.1, refl);
}

pub returns-in_ok-list-in-None-clause-note : goal.returns-in_ok-list-in-None-clause-note
returns-in_ok-list-in-None-clause-note c =
    let (at, more) = c.in_ok-list-in-None.ensures.some in
    let (keeps, there, same) = one_list_more c.args.lists.now c.keep_list.new.lists c.args.terminals.now more in
    record { like = refl; list = omega arith; same = ap (list_at c.keep_list.new.lists) at ∙ same; place = inl refl }
