use Rattle.grammar_tests.proofs.Sums.{flat_of}
use Rattle.grammar_tests.proofs.sets.sum_grammar.Goals as goal

pub from_parts-requires-clause-flat : goal.from_parts-requires-clause-flat
from_parts-requires-clause-flat c =
    flat_of c.in_ok-symbols.symbols.items c.in_ok-nullable.nullable.items c.in_ok-rules.rules.items c.in_ok-tops.tops.items
    c.in_ok-symbols.ensures c.in_ok-nullable.ensures.items c.in_ok-rules.ensures c.in_ok-tops.ensures.items
