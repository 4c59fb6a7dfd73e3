use Rattle.std.proofs.Common.{◌≤◌}
use Rattle.tree_text.proofs.Differences.{Limits, NoneFrom}
use Rattle.tree_text.proofs.difference.smallest_around.Given as goal

abbrev pub invariant-loop-left : goal.invariant-loop-left
invariant-loop-left l = record {
  there : l.left ≤ l.fn.first;
  limits : Limits l.fn.one l.fn.other l.fn.first l.left l.limit;
  none : NoneFrom l.fn.one l.fn.other l.fn.first l.left;
}

abbrev pub decreases-loop-left : goal.decreases-loop-left
decreases-loop-left l = l.left
