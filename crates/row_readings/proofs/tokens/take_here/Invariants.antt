use Rattle.std.proofs.Common.{◌≡◌}
use Rattle.row_readings.proofs.tokens.take_here.Given as goal

abbrev pub invariant-loop-token : goal.invariant-loop-token
invariant-loop-token l = l.recce.flat ≡ l.initial.recce.flat
