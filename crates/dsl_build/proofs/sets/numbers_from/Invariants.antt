use Rattle.std.proofs.Common.{◌≡◌}
use Rattle.language_model.specs.Building.{count_from}
use Rattle.dsl_build.proofs.sets.numbers_from.Given as goal

abbrev pub invariant-loop-k : goal.invariant-loop-k
invariant-loop-k l = l.numbers.items ≡ count_from l.from l.k
