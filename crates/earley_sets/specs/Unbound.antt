-- A recognizer without the flat grammar that it reads by.
use Rattle.std.specs.Prelude.{ℕ}
use Rattle.recognizer_model.specs.Flat.{FlatGrammar}
use Rattle.leo_items.specs.Memo.{pairs_of}
use Rattle.item_rows.specs.Heads.{AreHeads}
use Rattle.item_rows.specs.Unbound.{AreRowsOf, rows_with}
use Rattle.begun_lists.specs.Met.{AreFound}
use Rattle.expected_terminals.specs.Expected.{KnowsLast}
use Rattle.earley_sets.specs.Hiding.{NotesTwice}
use Rattle.earley_sets.specs.Recognizer.{Recognizer, IsKept}
use Rattle.earley_sets.specs.declared.recce.UnboundRecce.{UnboundRecce}

-- what it is seen as with the grammar
abbrev pub recognizer_with : FlatGrammar → UnboundRecce → Recognizer
recognizer_with g r = record {
  flat = g;
  start = r.start;
  edges = r.edges;
  sets = (rows_with g r.rows).sets;
  noted = pairs_of r.memo;
}

-- it is a recognizer that reads by the grammar
pub record IsUnboundOf (g : FlatGrammar) (r : UnboundRecce) : Type 0 where
  pub kept : IsKept (recognizer_with g r) r.top r.memo
  pub heads : AreHeads g r.heads
  pub rows : AreRowsOf g r.rows
  pub lists : AreFound g (rows_with g r.rows).shared r.lists
  pub expected : KnowsLast g (rows_with g r.rows).sets r.expected
  pub hiding : NotesTwice g (rows_with g r.rows).sets r.hiding.items
