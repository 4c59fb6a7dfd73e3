use Rattle.std.proofs.Common.{◌≡◌, map, take, Bor}
use Rattle.std.specs.Prelude.{flat_map}
use Rattle.language_model.specs.Tokens.{Spelled}
use Rattle.language_model.specs.Building.{parts_of_element}
use Rattle.dsl_statement.specs.Statements.{element_of}
use Rattle.dsl_faults.proofs.parts.parts_of.Given as goal

abbrev pub invariant-loop-element : goal.invariant-loop-element
invariant-loop-element l = map (λ (t : Bor Spelled). t.now) l.parts.items ≡ flat_map (λ e. parts_of_element (element_of e)) (take l.element-index l.element-items)
