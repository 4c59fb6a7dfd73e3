use Rattle.std.proofs.Common.{◌≡◌}
use Rattle.row_readings.proofs.grammars.read_all.Given as goal

abbrev pub invariant-loop-token : goal.invariant-loop-token
invariant-loop-token g l = l.recce.flat ≡ l.initial.recce.flat
