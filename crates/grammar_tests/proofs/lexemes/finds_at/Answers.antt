use Rattle.std.proofs.Common.{◌<◌, subst}
use Rattle.grammar_tests.proofs.lexemes.finds_at.Goals as goal

pub longest-requires-clause-starts : goal.longest-requires-clause-starts
longest-requires-clause-starts c k h = subst (λ n. k < n) c.requires (c.are_starts.ensures c.if-not-are_starts.false k h)
