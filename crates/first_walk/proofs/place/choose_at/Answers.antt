use Rattle.std.proofs.Common.{◌≡◌, false, Some, refl, sym, ◌∙◌, subst, true≢false}
use Rattle.grammar_model.specs.Grammar.{null_high_of, rule_at}
use Rattle.recognizer_model.specs.Flat.{FlatGrammar, source_of}
use Rattle.recognizer_model.specs.FlatForm.{source_number}
use Rattle.forest_parts.specs.Parts.{part_at}
use Rattle.first_walk.specs.Place.{null_high}
use Rattle.first_walk.proofs.Choices.{first_part}
use Rattle.first_walk.proofs.place.choose_at.Goals.{else-nothing-via-then-nothing+else-is_null_high, else-nothing-via-else-nothing}
use Rattle.first_walk.proofs.place.choose_at.Goals as goal

pub returns : goal.returns
returns c =
    first_part c.args.recce.now (null_high c.args.w.now c.args.ranking c.args.recce.now c.args.item.rule) c.args.nothing c.args.ranking c.args.parts.now c.args.item c.args.found.first
    (record { part = Some (part_at c.args.parts.now c.args.found.first); alone = c.is_alone-alone.result })
    (λ high nothing. elim c.else-nothing.branch [
      | else-nothing-via-then-nothing+else-is_null_high w ↦ true≢false (sym high ∙ subst (λ (g : FlatGrammar). null_high_of (rule_at c.args.w.now (source_number c.args.w.now (source_of g c.args.item.rule))) ≡ false) w.flat.ensures (sym w.is_null_high.ensures ∙ w.if-is_null_high.false))
      | else-nothing-via-else-nothing w ↦ true≢false (sym nothing ∙ w.if-nothing.false)
    ])
    refl c.is_alone-alone.ensures
