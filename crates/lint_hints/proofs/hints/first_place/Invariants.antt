use Rattle.std.proofs.Common.{◌≡◌, drop}
use Rattle.dsl_statement.specs.Statements.{statements_of}
use Rattle.lint_hints.specs.Hints.{first_place}
use Rattle.lint_hints.proofs.hints.first_place.Given as goal

abbrev pub invariant-loop-statement : goal.invariant-loop-statement
invariant-loop-statement l = first_place (statements_of (drop l.statement-index l.statements)) ≡ first_place (statements_of l.statements)
