use Rattle.std.proofs.Common.{◌<◌, subst}
use Rattle.language_tests.proofs.limits.agree_on.Goals as goal

pub longest-requires-clause-starts : goal.longest-requires-clause-starts
longest-requires-clause-starts c k h = subst (λ n. k < n) c.requires.low (c.are_starts.ensures c.if-not-are_starts.false k h)

pub longest-requires-2-clause-starts : goal.longest-requires-2-clause-starts
longest-requires-2-clause-starts c k h = subst (λ n. k < n) c.requires.high (c.are_starts.ensures c.if-not-are_starts.false k h)
