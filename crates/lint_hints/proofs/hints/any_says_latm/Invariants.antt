use Rattle.std.proofs.Common.{◌≡◌, drop}
use Rattle.std.specs.List.{list_any}
use Rattle.dsl_statement.specs.Statements.{statements_of}
use Rattle.lint_hints.specs.Hints.{says_latm}
use Rattle.lint_hints.proofs.hints.any_says_latm.Given as goal

abbrev pub invariant-loop-statement : goal.invariant-loop-statement
invariant-loop-statement l = list_any says_latm (statements_of (drop l.statement-index l.statements)) ≡ list_any says_latm (statements_of l.statements)
