use Rattle.std.proofs.Common.{sym, ◌∙◌}
use Rattle.dsl_statement.specs.Statements.{statement_of}
use Rattle.lint_hints.specs.Found.{cause_of, causes_of}
use Rattle.lint_hints.proofs.Rounds.{added_new}
use Rattle.lint_hints.proofs.nullable.Nullable.add.Goals as goal

pub returns : goal.returns
returns c = added_new (statement_of c.args.statement.now) (causes_of c.args.self.now) (causes_of c.put.new.self) c.left_name-left.result.now (cause_of c.in-Some.cause) c.left_name-left.ensures c.in-Some.ensures (sym c.has.ensures ∙ c.if-has.false) c.in_ok-put.ensures
