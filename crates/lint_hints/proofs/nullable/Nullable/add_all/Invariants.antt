use Rattle.std.proofs.Common.{take}
use Rattle.dsl_statement.specs.Statements.{statements_of}
use Rattle.lint_hints.specs.Found.{causes_of, AreSound}
use Rattle.lint_hints.proofs.Rounds.{Progress}
use Rattle.lint_hints.proofs.nullable.Nullable.add_all.Given as goal

abbrev pub invariant-loop-statement : goal.invariant-loop-statement
invariant-loop-statement l = record {
  progress : Progress (statements_of l.statements) (statements_of (take l.statement-index l.statements)) (causes_of l.fn.self) (causes_of l.self) l.grew;
  sound : AreSound (statements_of l.statements) (causes_of l.fn.self) → AreSound (statements_of l.statements) (causes_of l.self);
}
