use Rattle.std.proofs.Common.{◌≡◌}
use Rattle.language_tests.proofs.limits.agree_at.Given as goal

abbrev pub invariant-loop-start : goal.invariant-loop-start
invariant-loop-start l = (l.low ≡ l.initial.low) × (l.high ≡ l.initial.high)
