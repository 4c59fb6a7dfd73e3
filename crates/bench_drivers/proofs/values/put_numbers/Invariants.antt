use Rattle.value_text.specs.Pool.{AreIds}
use Rattle.bench_drivers.proofs.values.put_numbers.Given as goal

abbrev pub invariant-loop-n : goal.invariant-loop-n
invariant-loop-n l = AreIds l.pool l.ids.items
