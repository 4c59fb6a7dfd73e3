use Rattle.std.proofs.Common.{List, ℕ, sym, subst}
use Rattle.grammar_core.specs.declared.steps.Span.{Span}
use Rattle.text_reading.specs.Parts.{HasForest}
use Rattle.slif_parser.specs.Views.{Read}
use Rattle.slif_parser.proofs.forest.Forest.of.Goals as goal

pub invariant_of-result : goal.invariant_of-result
invariant_of-result c =
    let f = c.args.forest in
    let has = subst (λ (r : Read). HasForest r.grammar r.lexemes f.ranking r.characters r.spans f) (sym c.reading.view_is) c.requires in
    subst (λ (l : List ℕ). HasForest c.reading.inside.prepared.now l f.ranking c.reading.inside.chars c.as_slice-2.result.now f) (sym c.as_slice.ensures.value)
    (subst (λ (s : List Span). HasForest c.reading.inside.prepared.now c.reading.inside.lexemes.items f.ranking c.reading.inside.chars s f) (sym c.as_slice-2.ensures.value) has)
