use Rattle.std.proofs.Common.{subst, Contains, arith}
use Rattle.recognizer_model.specs.Flat.{FlatGrammar}
use Rattle.recognizer_model.specs.Counts.{IsListOf}
use Rattle.item_rows.specs.Rows.{row_at}
use Rattle.item_rows.specs.Kept.{WaitsForTerminal}
use Rattle.expected_terminals.proofs.Marking.{awaited_of}
use Rattle.expected_terminals.proofs.marks.mark_row.Goals as goal

pub sort-requires : goal.sort-requires
sort-requires c = c.mark_items.ensures.marked.once

pub returns-clause-room : goal.returns-clause-room
returns-clause-room c = record { all = c.mark_items.ensures.room.all; room = (let r = c.mark_items.ensures.room.room in let e = c.sort.ensures.capacity in omega arith) }

pub returns-clause-most : goal.returns-clause-most
returns-clause-most c = c.mark_items.ensures.marked.most

pub returns-clause-listed : goal.returns-clause-listed
returns-clause-listed c = record {
  order = c.sort.ensures.order;
  exact = λ t. (
      let is = awaited_of c.args.flat.now (row_at c.args.rows.now.sets c.args.j) c.scanned-items.result
      (subst (λ (f : FlatGrammar). IsListOf (λ item. Contains (row_at c.args.rows.now.sets c.args.j) item × WaitsForTerminal f item) c.scanned-items.result) c.requires.flat c.scanned-items.ensures) t in
      let listed = c.mark_items.ensures.listed t in
      let same = c.sort.ensures.same t in
      (λ h. is.0 (listed.0 (same.0 h)), λ h. same.1 (listed.1 (is.1 h)))
      );
}
