use Rattle.std.proofs.Common.{◌≡◌, ◌+◌}
use Rattle.earley_sets.proofs.recce.count.Given as goal

abbrev pub invariant-loop : goal.invariant-loop
invariant-loop g l = l.steps ≡ l.initial.steps + l.index
