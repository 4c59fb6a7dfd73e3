use Rattle.std.proofs.Common.{arith}
use Rattle.base_tests.proofs.RowLemmas.{begins_nulled_steps, one_span}
use Rattle.base_tests.proofs.plays.tree_line.Goals as goal

pub line_of-line-requires-clause-list : goal.line_of-line-requires-clause-list
line_of-line-requires-clause-list c = begins_nulled_steps c.args.w.now c.requires.sound c.requires.rules

pub line_of-line-requires-clause-spans : goal.line_of-line-requires-clause-spans
line_of-line-requires-clause-spans c = one_span _ (omega (arith, c.in_ok-chars.ensures))
