use Rattle.std.proofs.Common.{◌<◌, length}
use Rattle.language_tests.proofs.values.deep.Given as goal

abbrev pub invariant-loop : goal.invariant-loop
invariant-loop l = l.id < length l.pool
