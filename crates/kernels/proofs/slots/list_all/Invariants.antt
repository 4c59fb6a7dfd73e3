use Rattle.std.proofs.Common.{◌%◌, ℕ, take, Contains}
use Rattle.kernels.proofs.slots.list_all.Given as goal

abbrev pub invariant-loop-n : goal.invariant-loop-n
invariant-loop-n l = (n : ℕ) → Contains (take l.n-index l.packed) n → Contains l.origins.items (n % 4294967296)
