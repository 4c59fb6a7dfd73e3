use Rattle.std.proofs.Common.{◌≡◌, length}
use Rattle.language_tests.proofs.limits.agree.Given as goal

abbrev pub invariant-loop-at : goal.invariant-loop-at
invariant-loop-at l = (l.starts ≡ length l.low.flat.tops) × (l.starts ≡ length l.high.flat.tops)
