use Rattle.std.proofs.Common.{arith, sym, ◌∙◌, ap}
use Rattle.std.specs.Prelude.{flat_map}
use Rattle.std.proofs.lemmas.List.{take_all}
use Rattle.std.proofs.lemmas.List.Folds.{flat_map-map}
use Rattle.language_model.specs.Building.{shown_of_element}
use Rattle.dsl_statement.specs.declared.statement.Element.{Element as HeldElement}
use Rattle.dsl_statement.specs.Statements.{element_of}
use Rattle.dsl_meanings.proofs.meanings.shown_of.Goals as goal

pub returns : goal.returns
returns c =
    let g = λ (e : HeldElement). shown_of_element (element_of e) in
    c.loop-element.invariant ∙ ap (flat_map g) (take_all c.loop-element.element-index c.args.elements.now (omega arith)) ∙ sym (flat_map-map shown_of_element element_of c.args.elements.now)
