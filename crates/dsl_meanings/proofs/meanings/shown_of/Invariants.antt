use Rattle.std.proofs.Common.{◌≡◌, take}
use Rattle.std.specs.Prelude.{flat_map}
use Rattle.language_model.specs.Building.{shown_of_element}
use Rattle.dsl_statement.specs.Statements.{element_of}
use Rattle.dsl_meanings.proofs.meanings.shown_of.Given as goal

abbrev pub invariant-loop-element : goal.invariant-loop-element
invariant-loop-element l = l.shown.items ≡ flat_map (λ e. shown_of_element (element_of e)) (take l.element-index l.elements)
