use Rattle.std.proofs.Common.{◌≡◌, drop, map}
use Rattle.std.specs.List.{list_all}
use Rattle.dsl_statement.specs.Statements.{element_of}
use Rattle.lint_hints.specs.Nullable.{spans_element}
use Rattle.lint_hints.specs.Found.{causes_of, knows}
use Rattle.lint_hints.proofs.nullable.Nullable.spans_elements.Given as goal

abbrev pub invariant-loop-element : goal.invariant-loop-element
invariant-loop-element l = list_all (spans_element (knows (causes_of l.self))) (map element_of (drop l.element-index l.elements)) ≡ list_all (spans_element (knows (causes_of l.self))) (map element_of l.elements)
