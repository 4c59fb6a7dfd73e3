use Rattle.std.proofs.Common.{arith}
use Rattle.base_tests.proofs.RowLemmas.{list_in_brackets_steps, five_spans}
use Rattle.base_tests.proofs.plays.brackets_line.Goals as goal

pub line_of-line-requires-clause-list : goal.line_of-line-requires-clause-list
line_of-line-requires-clause-list c = list_in_brackets_steps c.args.w.now c.requires.sound c.requires.rules

pub line_of-line-requires-clause-spans : goal.line_of-line-requires-clause-spans
line_of-line-requires-clause-spans c = five_spans _ (omega (arith, c.in_ok-chars.ensures))
