use Rattle.std.proofs.Common.{◌≡◌, ◌++◌, map, take}
use Rattle.std.specs.List.{flat_map}
use Rattle.dsl_statement.specs.Statements.{statements_of}
use Rattle.lint_hints.specs.Hints.{hint_of}
use Rattle.lint_hints.specs.Uses.{unused}
use Rattle.lint_hints.specs.Found.{has}
use Rattle.lint_hints.proofs.uses.Names.look_at_each.Given as goal

abbrev pub invariant-loop-statement : goal.invariant-loop-statement
invariant-loop-statement l = map hint_of l.hints.items ≡ map hint_of l.fn.hints.items ++ flat_map (unused (has l.self)) (statements_of (take l.statement-index l.statements))
