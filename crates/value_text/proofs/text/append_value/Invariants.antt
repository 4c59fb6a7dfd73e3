use Rattle.std.proofs.Common.{◌≡◌, ◌++◌, length}
use Rattle.grammar_model.specs.Text.{text_of}
use Rattle.value_text.specs.Nodes.{value_at}
use Rattle.value_text.specs.Parts.{rest_text, AreOpen, IsExtended}
use Rattle.value_text.proofs.text.append_value.Given as goal

abbrev pub invariant-loop-list : goal.invariant-loop-list
invariant-loop-list l = record {
  written : l.out.items ++ rest_text l.pool l.lists.items ≡ l.fn.out.items ++ text_of (value_at l.fn.pool l.fn.id);
  extended : IsExtended l.fn.out.items l.out.items;
  lists : AreOpen l.pool l.lists.items;
}

abbrev pub decreases-loop-list : goal.decreases-loop-list
decreases-loop-list l = length (rest_text l.pool l.lists.items)
