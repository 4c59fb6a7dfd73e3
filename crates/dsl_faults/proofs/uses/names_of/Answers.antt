use Rattle.std.proofs.Common.{[], arith, sym, ◌∙◌, ap, cond}
use Rattle.std.specs.Prelude.{flat_map}
use Rattle.std.proofs.lemmas.List.{take_all}
use Rattle.std.proofs.lemmas.List.Folds.{flat_map-map}
use Rattle.language_model.specs.Building.{new_texts}
use Rattle.dsl_faults.specs.Texts.{with_text}
use Rattle.dsl_faults.specs.Uses.{used_of, texts_asked}
use Rattle.dsl_faults.specs.declared.uses.Use.{Use}
use Rattle.dsl_faults.proofs.Keeping.{texts_on}
use Rattle.dsl_faults.proofs.uses.names_of.Goals as goal
use Rattle.dsl_faults.proofs.uses.names_of.Goals.{then-is_asked+in_ok-add, else-is_asked}

pub loop-used-preserved : goal.loop-used-preserved
loop-used-preserved c =
    texts_on c.args.which c.args.uses.now c.loop-used.used-index c.used-item.result c.loop-used.names c.if-is_asked.names c.is_asked.result (omega arith) c.used-item.is c.loop-used.invariant c.is_asked.ensures
    (elim c.if-is_asked.branch [
      | then-is_asked+in_ok-add w ↦ w.names-is ∙ w.in_ok-add.ensures.ok ∙ ap (λ t. with_text c.loop-used.names t) w.text_of.ensures ∙ ap (λ b. cond b (with_text c.loop-used.names c.used-item.result.token.now.content) c.loop-used.names) (sym w.if-is_asked.true)
      | else-is_asked w ↦ w.names-is ∙ ap (λ b. cond b (with_text c.loop-used.names c.used-item.result.token.now.content) c.loop-used.names) (sym w.if-is_asked.false)
    ])

pub returns : goal.returns
returns c =
    let g = λ (u : Use). texts_asked c.args.which (used_of u) in
    c.loop-used.invariant ∙ ap (λ us. new_texts [] (flat_map g us)) (take_all c.loop-used.used-index c.args.uses.now (omega arith)) ∙ ap (new_texts []) (sym (flat_map-map (texts_asked c.args.which) used_of c.args.uses.now))
