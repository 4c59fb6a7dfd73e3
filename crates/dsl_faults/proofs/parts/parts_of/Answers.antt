use Rattle.std.proofs.Common.{sym, ap, ◌∙◌, arith}
use Rattle.std.specs.Prelude.{flat_map}
use Rattle.std.proofs.lemmas.List.{take_all}
use Rattle.std.proofs.lemmas.List.Folds.{flat_map-map}
use Rattle.language_model.specs.Building.{parts_of_element}
use Rattle.dsl_statement.specs.declared.statement.Element.{Element as HeldElement}
use Rattle.dsl_statement.specs.Statements.{element_of}
use Rattle.dsl_faults.proofs.parts.parts_of.Goals as goal

pub returns : goal.returns
returns c =
    let g = λ (e : HeldElement). parts_of_element (element_of e) in
    rw (← c.alternative.view_is)
    (c.loop-element.invariant ∙ ap (flat_map g) (take_all c.loop-element.element-index c.deref-element-items.result.now (omega arith) ∙ c.deref-element-items.ensures.value)
    ∙ sym (flat_map-map parts_of_element element_of c.alternative.inside.elements.items))
