use Rattle.std.proofs.Common.{◌≡◌}
use Rattle.row_readings.proofs.tokens.read_to.Given as goal

abbrev pub invariant-loop : goal.invariant-loop
invariant-loop g l = l.recce.flat ≡ l.initial.recce.flat
