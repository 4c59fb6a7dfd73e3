use Rattle.std.proofs.Common.{◌≡◌, map, take}
use Rattle.std.specs.List.{flat_map}
use Rattle.dsl_statement.specs.Statements.{statements_of}
use Rattle.lint_hints.specs.Uses.{uses_of}
use Rattle.lint_hints.proofs.uses.uses_in.Given as goal

abbrev pub invariant-loop-statement : goal.invariant-loop-statement
invariant-loop-statement l = map (λ n. n.now) l.names.items ≡ flat_map uses_of (statements_of (take l.statement-index l.statements))
