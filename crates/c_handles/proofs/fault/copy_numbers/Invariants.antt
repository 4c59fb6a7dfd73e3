use Rattle.std.proofs.Common.{◌≡◌, ◌++◌, take, drop}
use Rattle.c_handles.proofs.fault.copy_numbers.Given as goal

abbrev pub invariant-loop-k : goal.invariant-loop-k
invariant-loop-k l = l.to ≡ take l.k l.from ++ drop l.k l.fn.to
