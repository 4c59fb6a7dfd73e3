use Rattle.item_rows.specs.Dotted.{AddsDots}
use Rattle.item_rows.proofs.dotted.list_dots.Given as goal

abbrev pub invariant-loop-dot : goal.invariant-loop-dot
invariant-loop-dot l = AddsDots l.rule l.dot l.initial.listed.items l.listed.items
