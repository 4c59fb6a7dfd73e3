use Rattle.std.proofs.Common.{sym, subst}
use Rattle.grammar_model.specs.declared.Ranking.{Ranking}
use Rattle.text_reading.specs.Refusals.{IsNoDerivation, TellsInput}
use Rattle.text_reading.specs.Parts.{HasForest}
use Rattle.slif_parser.specs.Views.{Read}
use Rattle.slif_parser.proofs.forest.forest_with.Goals as goal

pub of-requires : goal.of-requires
of-requires g c =
    let f = c.in-Ok.forest in
    let has = c.in-Ok.ensures.forest c.reading.inside.lexemes.items c.reading.invariant.reading in
    subst (λ (r : Read). HasForest r.grammar r.lexemes f.ranking r.characters r.spans f) c.reading.view_is
    (subst (λ (k : Ranking). HasForest c.reading.inside.prepared.now c.reading.inside.lexemes.items k c.reading.inside.chars c.reading.inside.tokens.spans.items f) (sym has.ranking_is) has)

pub returns-clause-refused : goal.returns-clause-refused
returns-clause-refused g c =
    subst (λ (r : Read). TellsInput (IsNoDerivation r.grammar r.lexemes c.args.ranking r.characters) c.in-Err.refusal) c.reading.view_is
    (c.in-Err.ensures.refused c.reading.inside.lexemes.items c.reading.invariant.reading)
