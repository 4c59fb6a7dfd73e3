use Rattle.std.proofs.Common.{true, map, sym, subst, refl}
use Rattle.std.specs.Prelude.{IfSome, IsTrue}
use Rattle.grammar_model.specs.declared.Ranking.{Ranking}
use Rattle.grammar_core.specs.Steps.{step_of}
use Rattle.text_reading.specs.Refusals.{IsNoDerivation, TellsInput}
use Rattle.text_reading.specs.Parts.{HasForest}
use Rattle.slif_parser.specs.Views.{Read, FirstOf, CanBePlayed}
use Rattle.slif_parser.specs.Readings.{IsFirst}
use Rattle.slif_parser.proofs.Firsts.{IsOnlyFound, only_played, only_found}
use Rattle.slif_parser.proofs.first.derived_with.Goals as goal

pub of-requires : goal.of-requires
of-requires g c =
    let b = c.reading.inside.prepared.now in
    let cs = c.reading.inside.chars in
    let recce = c.reading.inside.tokens.recce in
    let spans = c.reading.inside.tokens.spans.items in
    let has = subst (λ o. IfSome o (IsOnlyFound b c.args.ranking cs recce spans)) c.in-Ok-Some.field-0-is c.in-Ok-Some.ensures.only c.reading.inside.lexemes.items c.reading.invariant.reading in
    subst (λ (r : Read). CanBePlayed r.grammar r.characters r.spans (map step_of c.in-Ok-Some.found.items)) c.reading.view_is
    (only_played b c.known.ensures.accepted.checked.structural c.known.ensures.ranges c.reading.inside.lexemes.items c.args.ranking cs spans recce (map step_of c.in-Ok-Some.found.items) has)

pub returns-in-Ok-Some-clause-derived : goal.returns-in-Ok-Some-clause-derived
returns-in-Ok-Some-clause-derived g c =
    let b = c.reading.inside.prepared.now in
    let cs = c.reading.inside.chars in
    let recce = c.reading.inside.tokens.recce in
    let spans = c.reading.inside.tokens.spans.items in
    let has = subst (λ o. IfSome o (IsOnlyFound b c.args.ranking cs recce spans)) c.in-Ok-Some.field-0-is c.in-Ok-Some.ensures.only c.reading.inside.lexemes.items c.reading.invariant.reading in
    let found =
    subst (λ (r : Read). IsFirst r c.args.ranking (record { read = r; steps = map step_of c.in-Ok-Some.found.items; only = true })) c.reading.view_is
    (only_found b c.known.ensures.accepted.checked.structural c.known.ensures.ranges c.reading.inside.lexemes.items c.args.ranking cs spans recce (map step_of c.in-Ok-Some.found.items) has) in (
      subst (IsFirst c.args.reading.now c.args.ranking) (sym c.of.ensures) found,
      subst (λ (f : FirstOf). IsTrue f.only) (sym c.of.ensures) refl,
    )

pub of-requires-in-Ok : goal.of-requires-in-Ok
of-requires-in-Ok g c =
    let f = c.in-Ok.forest in
    let has = c.in-Ok.ensures.forest c.reading.inside.lexemes.items c.reading.invariant.reading in
    subst (λ (r : Read). HasForest r.grammar r.lexemes f.ranking r.characters r.spans f) c.reading.view_is
    (subst (λ (k : Ranking). HasForest c.reading.inside.prepared.now c.reading.inside.lexemes.items k c.reading.inside.chars c.reading.inside.tokens.spans.items f) (sym has.ranking_is) has)

pub returns-in-Ok-None-clause-refused : goal.returns-in-Ok-None-clause-refused
returns-in-Ok-None-clause-refused g c =
    subst (λ (r : Read). TellsInput (IsNoDerivation r.grammar r.lexemes c.args.ranking r.characters) c.in-Err-forest_after.refusal) c.reading.view_is
    (c.in-Err-forest_after.ensures.refused c.reading.inside.lexemes.items c.reading.invariant.reading)

pub returns-clause-refused : goal.returns-clause-refused
returns-clause-refused g c =
    subst (λ (r : Read). TellsInput (IsNoDerivation r.grammar r.lexemes c.args.ranking r.characters) c.in-Err.refusal) c.reading.view_is
    (c.in-Err.ensures.refused c.reading.inside.lexemes.items c.reading.invariant.reading)
