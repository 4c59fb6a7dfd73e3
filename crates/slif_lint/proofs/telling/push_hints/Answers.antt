use Rattle.std.proofs.Common.{string_bytes}
use Rattle.dsl_statement.specs.Statements.{statements_of}
use Rattle.slif_lint.proofs.Written.{told_are}
use Rattle.slif_lint.proofs.telling.push_hints.Goals as goal

pub returns : goal.returns
returns c = told_are (statements_of c.args.statements.now) c.args.chars.now c.in_ok-hints.hints.items c.as_slice-slice.result.now c.count_of.result (string_bytes c.args.out.now) (string_bytes c.push_lines.new.out) c.in_ok-hints.ensures c.as_slice-slice.ensures.value c.requires c.in_ok-push_lines.ensures c.count_of.ensures
