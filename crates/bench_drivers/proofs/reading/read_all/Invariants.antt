use Rattle.std.proofs.Common.{◌≡◌}
use Rattle.bench_drivers.proofs.reading.read_all.Given as goal

abbrev pub invariant-loop-k : goal.invariant-loop-k
invariant-loop-k g l = l.recce.flat ≡ l.initial.recce.flat
