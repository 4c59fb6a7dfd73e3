use Rattle.std.proofs.Common.{List, map, subst, sym}
use Rattle.run_model.specs.Outside.{stream}
use Rattle.words_model.specs.Words.Telling.{Values}
use Rattle.command_line.specs.Jobs.{asked_of}
use Rattle.grammar_core.specs.Steps.{step_of}
use Rattle.grammar_core.specs.declared.steps.Span.{Span}
use Rattle.first_walk.specs.Place.{reading_of}
use Rattle.text_reading.specs.Parts.{HasOnly}
use Rattle.tellings.specs.Stops.{WriteStops}
use Rattle.tellings.specs.Refusals.{write_stop}
use Rattle.tellings.specs.Telling.{TellsReading}
use Rattle.tellings.proofs.Derived.{only_done, values_stop}
use Rattle.tellings.proofs.Numbered.{some_numbers}
use Rattle.tellings.proofs.Stopping.{passed_on}
use Rattle.tellings.proofs.values.write_only.Goals as goal

pub write_derivation-requires-clause-asked : goal.write_derivation-requires-clause-asked
write_derivation-requires-clause-asked g c =
    let b = c.args.prepared.now in
    let only = subst (λ (spans : List Span). HasOnly b c.requires.read.0 c.args.asked.ranking c.args.asked.first c.args.chars.now spans c.args.reading.now.recce (map step_of c.args.list.now)) (sym c.deref.ensures.value)
    (c.requires.only c.requires.read.0 c.requires.read.1) in
    (reading_of b.g1 c.args.asked.ranking c.args.reading.now.recce, only.has.pieces, c.args.asked.first, only.has.of, only.asked)

pub returns-clause-done : goal.returns-clause-done
returns-clause-done g c given is_read =
    let b = c.args.prepared.now in
    let cs = c.args.chars.now in
    let f = reading_of b.g1 c.args.asked.ranking c.args.reading.now.recce in
    let only = subst (λ (spans : List Span). HasOnly b given c.args.asked.ranking c.args.asked.first cs spans c.args.reading.now.recce (map step_of c.args.list.now)) (sym c.deref.ensures.value) (c.requires.only given is_read) in
    let (n, (are, numbers)) = some_numbers b given c.args.asked.ranking cs c.deref.result.now f only.has c.known.ensures.built c.known.ensures.accepted in
    only_done (asked_of c.args.asked) b given cs c.deref.result.now f only.has n numbers c.requires.values _ _ (c.in_ok-write_derivation.ensures.written f c.args.asked.first only.asked)

pub returns-in_err-write_derivation-clause-stops : goal.returns-in_err-write_derivation-clause-stops
returns-in_err-write_derivation-clause-stops g c given is_read =
    let b = c.args.prepared.now in
    let cs = c.args.chars.now in
    let asked = asked_of c.args.asked in
    let f = reading_of b.g1 c.args.asked.ranking c.args.reading.now.recce in
    let before = stream g.O.Sink.contents g.O.Sink.fault_count c.args.out.now in
    let after = stream g.O.Sink.contents g.O.Sink.fault_count c.write_derivation.new.out in
    let only = subst (λ (spans : List Span). HasOnly b given c.args.asked.ranking c.args.asked.first cs spans c.args.reading.now.recce (map step_of c.args.list.now)) (sym c.deref.ensures.value) (c.requires.only given is_read) in
    let (n, (are, numbers)) = some_numbers b given c.args.asked.ranking cs c.deref.result.now f only.has c.known.ensures.built c.known.ensures.accepted in
    let refusal = c.in_err-write_derivation.field-0.0 in
    passed_on (WriteStops (TellsReading (Values asked) b given cs) before after) c.from_residual.result (write_stop refusal) c.from_residual.ensures.1
    (values_stop asked b given cs c.deref.result.now f only.has n numbers before after refusal (c.in_err-write_derivation.ensures.stops f c.args.asked.first only.asked))
