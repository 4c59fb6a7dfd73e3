use Rattle.std.proofs.Common.{◌≡◌, drop, map}
use Rattle.std.specs.List.{list_any}
use Rattle.dsl_statement.specs.Statements.{element_of}
use Rattle.lint_hints.specs.Hints.{has_name}
use Rattle.lint_hints.proofs.operators.any_has_name.Given as goal

abbrev pub invariant-loop-element : goal.invariant-loop-element
invariant-loop-element l = list_any (has_name l.left) (map element_of (drop l.element-index l.elements)) ≡ list_any (has_name l.left) (map element_of l.elements)
