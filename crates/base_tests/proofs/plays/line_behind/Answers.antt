use Rattle.std.proofs.Common.{arith}
use Rattle.base_tests.proofs.RowLemmas.{one_part_steps, one_span}
use Rattle.base_tests.proofs.plays.line_behind.Goals as goal

pub line_of_two-line-requires-clause-list : goal.line_of_two-line-requires-clause-list
line_of_two-line-requires-clause-list c = one_part_steps c.args.w.now c.requires.sound c.requires.rules

pub line_of_two-line-requires-clause-spans : goal.line_of_two-line-requires-clause-spans
line_of_two-line-requires-clause-spans c = one_span _ (omega (arith, c.in_ok-chars.ensures))
