use Rattle.std.proofs.Common.{List, subst}
use Rattle.grammar_model.specs.declared.Edge.{Edge as HeldEdge}
use Rattle.grammar_model.specs.Derives.{Held}
use Rattle.recognizer_model.specs.Counts.{IsListOf}
use Rattle.recognizer_model.specs.FlatForm.{FlatEdges}
use Rattle.recognizer_model.specs.Leo.{InReduced}
use Rattle.begun_lists.proofs.Sharing.{no_lists}
use Rattle.begun_lists.proofs.Meeting.{none_met}
use Rattle.earley_sets.proofs.recce.first_rows.Goals as goal

pub add_first-added-requires-clause-lists : goal.add_first-added-requires-clause-lists
add_first-added-requires-clause-lists c = record {
  by_symbols = no_lists c.args.flat.now c.in_ok-rows.rows.shared c.args.lists.now.numbers.entries c.in_ok-rows.ensures.2 c.requires.lists.0;
  by_items = none_met c.args.flat.now c.in_ok-rows.rows.shared c.args.lists.now.met.lists c.args.lists.now.met.numbers.items c.requires.lists.1 c.requires.lists.2;
}

pub returns-clause-ok : goal.returns-clause-ok
returns-clause-ok c =
    let (row, one, is_row, exact) = c.in_ok-added.ensures.ok in
    (row, one, is_row, subst (λ (l : List HeldEdge). IsListOf (InReduced c.args.flat.now (FlatEdges c.args.flat.now (Held l)) c.args.top 0) row) c.new-edges.ensures exact)
