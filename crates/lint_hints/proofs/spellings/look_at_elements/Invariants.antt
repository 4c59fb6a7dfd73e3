use Rattle.std.proofs.Common.{◌≡◌, ◌++◌, map, take}
use Rattle.std.specs.List.{flat_map}
use Rattle.dsl_statement.specs.Statements.{element_of}
use Rattle.lint_hints.specs.Hints.{hint_of, element_spellings}
use Rattle.lint_hints.proofs.spellings.look_at_elements.Given as goal

abbrev pub invariant-loop-element : goal.invariant-loop-element
invariant-loop-element l = map hint_of l.hints.items ≡ map hint_of l.fn.hints.items ++ flat_map element_spellings (map element_of (take l.element-index l.elements))
