use Rattle.std.proofs.Common.{ℕ, take, Contains}
use Rattle.scanless.proofs.kept.has_one.Given as goal

abbrev pub invariant-loop-start : goal.invariant-loop-start
invariant-loop-start l = (k : ℕ) → Contains (take l.start-index l.starts) k → Contains l.matched k → ⊥
