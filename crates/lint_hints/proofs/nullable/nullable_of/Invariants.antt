use Rattle.dsl_statement.specs.Statements.{statements_of}
use Rattle.lint_hints.specs.Found.{causes_of, AreSound, open_count}
use Rattle.lint_hints.proofs.nullable.nullable_of.Given as goal

abbrev pub invariant-loop-nullable : goal.invariant-loop-nullable
invariant-loop-nullable l = AreSound (statements_of l.statements) (causes_of l.nullable)

abbrev pub decreases-loop-nullable : goal.decreases-loop-nullable
decreases-loop-nullable l = open_count (statements_of l.statements) (causes_of l.nullable)
