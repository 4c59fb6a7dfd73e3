use Rattle.std.proofs.Common.{arith}
use Rattle.base_tests.proofs.RowLemmas.{ends_nulled_steps, later_span}
use Rattle.base_tests.proofs.plays.line_of_nulled.Goals as goal

pub line_of-line-requires-clause-list : goal.line_of-line-requires-clause-list
line_of-line-requires-clause-list c = ends_nulled_steps c.args.w.now c.requires.sound c.requires.rules

pub line_of-line-requires-clause-spans : goal.line_of-line-requires-clause-spans
line_of-line-requires-clause-spans c = later_span _ (omega (arith, c.in_ok-chars.ensures))
