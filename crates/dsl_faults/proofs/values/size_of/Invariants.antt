use Rattle.std.proofs.Common.{◌≡◌, min, take}
use Rattle.dsl_faults.proofs.Digits.{spelled}
use Rattle.dsl_faults.proofs.values.size_of.Given as goal

abbrev pub invariant-loop-b : goal.invariant-loop-b
invariant-loop-b l = l.size ≡ min 1000001 (spelled (take l.b-index l.b-items))
