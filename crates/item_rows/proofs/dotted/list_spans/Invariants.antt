use Rattle.item_rows.specs.Dotted.{AreSpans}
use Rattle.item_rows.proofs.dotted.list_spans.Given as goal

abbrev pub invariant-loop-symbol : goal.invariant-loop-symbol
invariant-loop-symbol l = AreSpans l.flat l.rules l.spans.items l.symbol
