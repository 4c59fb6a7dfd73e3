use Rattle.std.proofs.Common.{◌≡◌, ◌++◌, map, take}
use Rattle.std.specs.List.{flat_map}
use Rattle.dsl_statement.specs.Statements.{element_of}
use Rattle.language_model.specs.Building.{parts_of_element}
use Rattle.lint_hints.proofs.sides.push_elements.Given as goal

abbrev pub invariant-loop-element : goal.invariant-loop-element
invariant-loop-element l = map (λ t. t.now) l.parts.items ≡ map (λ t. t.now) l.fn.parts.items ++ flat_map parts_of_element (map element_of (take l.element-index l.elements))
