use Rattle.std.proofs.Common.{◌≡◌, drop}
use Rattle.std.specs.List.{list_any}
use Rattle.dsl_statement.specs.Statements.{statements_of}
use Rattle.lint_hints.specs.Hints.{is_lexical_rule}
use Rattle.lint_hints.proofs.hints.has_lexical.Given as goal

abbrev pub invariant-loop-statement : goal.invariant-loop-statement
invariant-loop-statement l = list_any is_lexical_rule (statements_of (drop l.statement-index l.statements)) ≡ list_any is_lexical_rule (statements_of l.statements)
