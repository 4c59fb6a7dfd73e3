use Rattle.std.proofs.Common.{◌++◌}
use Rattle.std.specs.Str.Iter.{char_indices_rest, char_indices_offset}
use Rattle.value_text.specs.Parts.{IsExtended}
use Rattle.value_text.proofs.Rest.{escaped_rest, IsQuoting}
use Rattle.value_text.proofs.text.append_inside.Given as goal

abbrev pub invariant-loop-at : goal.invariant-loop-at
invariant-loop-at l = record {
  quoting : IsQuoting l.fn.text l.from (char_indices_offset l.at-iterator) (char_indices_rest l.at-iterator) l.out.items (l.fn.out.items ++ escaped_rest l.fn.text);
  extended : IsExtended l.fn.out.items l.out.items;
}
