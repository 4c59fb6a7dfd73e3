use Rattle.std.proofs.Common.{◌≡◌, ◌≤◌, ◌++◌, length, reverse}
use Rattle.language_model.specs.Building.{numbered_from}
use Rattle.dsl_build.proofs.sets.numbered.Given as goal

abbrev pub invariant-loop-set : goal.invariant-loop-set
invariant-loop-set l = record {
  items : numbered_from l.first l.sets.items ++ reverse l.numbered.items ≡ numbered_from l.first l.fn.sets.items;
  within : length l.sets.items ≤ length l.fn.sets.items;
}

abbrev pub decreases-loop-set : goal.decreases-loop-set
decreases-loop-set l = length l.sets.items
