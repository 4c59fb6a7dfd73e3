use Rattle.std.proofs.Common.{map, sym, subst}
use Rattle.std.specs.Prelude.{IfSome}
use Rattle.grammar_core.specs.Steps.{step_of}
use Rattle.text_reading.specs.Refusals.{IsNoDerivation, TellsInput}
use Rattle.text_reading.proofs.Derived.{IsFound}
use Rattle.slif_parser.specs.Views.{Read, CanBePlayed}
use Rattle.slif_parser.specs.Readings.{IsFirst}
use Rattle.slif_parser.proofs.Firsts.{played, found}
use Rattle.slif_parser.proofs.first.first_with.Goals as goal

pub of-requires : goal.of-requires
of-requires g c =
    let b = c.reading.inside.prepared.now in
    let cs = c.reading.inside.chars in
    let recce = c.reading.inside.tokens.recce in
    let spans = c.reading.inside.tokens.spans.items in
    let walked = c.in-Ok-Some.walked in
    let has = subst (λ o. IfSome o (IsFound b c.args.ranking cs recce spans)) c.in-Ok-Some.field-0-is c.in-Ok-Some.ensures.first c.reading.inside.lexemes.items c.reading.invariant.reading in
    subst (λ (r : Read). CanBePlayed r.grammar r.characters r.spans (map step_of walked.steps.items)) c.reading.view_is
    (played b c.known.ensures.accepted.checked.structural c.known.ensures.ranges c.reading.inside.lexemes.items c.args.ranking cs spans recce (map step_of walked.steps.items) walked.alone has)

pub returns-in-Ok-Some-clause-first : goal.returns-in-Ok-Some-clause-first
returns-in-Ok-Some-clause-first g c =
    let b = c.reading.inside.prepared.now in
    let cs = c.reading.inside.chars in
    let recce = c.reading.inside.tokens.recce in
    let spans = c.reading.inside.tokens.spans.items in
    let walked = c.in-Ok-Some.walked in
    let has = subst (λ o. IfSome o (IsFound b c.args.ranking cs recce spans)) c.in-Ok-Some.field-0-is c.in-Ok-Some.ensures.first c.reading.inside.lexemes.items c.reading.invariant.reading in
    subst (IsFirst c.args.reading.now c.args.ranking) (sym c.of.ensures)
    (subst (λ (r : Read). IsFirst r c.args.ranking (record { read = r; steps = map step_of walked.steps.items; only = walked.alone })) c.reading.view_is
    (found b c.known.ensures.accepted.checked.structural c.known.ensures.ranges c.reading.inside.lexemes.items c.args.ranking cs spans recce (map step_of walked.steps.items) walked.alone has))

pub returns-clause-refused : goal.returns-clause-refused
returns-clause-refused g c =
    subst (λ (r : Read). TellsInput (IsNoDerivation r.grammar r.lexemes c.args.ranking r.characters) c.in-Err.refusal) c.reading.view_is
    (c.in-Err.ensures.refused c.reading.inside.lexemes.items c.reading.invariant.reading)
