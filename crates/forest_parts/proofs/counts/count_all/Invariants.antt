use Rattle.recognizer_model.specs.Counts.{IsCountOf}
use Rattle.forest_parts.proofs.Lowest.{IsHiddenBelow}
use Rattle.forest_parts.proofs.counts.count_all.Given as goal

abbrev pub invariant-loop-end : goal.invariant-loop-end
invariant-loop-end g l = IsCountOf (IsHiddenBelow l.recce l.keys l.end) l.expanded
