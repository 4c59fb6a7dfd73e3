use Rattle.std.proofs.Common.{List, subst, sym}
use Rattle.std.proofs.lemmas.Result.{on_ok_weaker, MatchResult-weaker}
use Rattle.run_model.specs.Outside.{stream}
use Rattle.words_model.specs.Words.Telling.{Values}
use Rattle.command_line.specs.Jobs.{asked_of}
use Rattle.grammar_core.specs.declared.steps.Span.{Span}
use Rattle.tellings.specs.Stops.{WriteStops}
use Rattle.text_reading.specs.Refusals.{IsNoDerivation}
use Rattle.text_reading.proofs.Derived.{some_listing}
use Rattle.tellings.specs.Refusals.{stop_for, write_stop}
use Rattle.tellings.specs.Telling.{TellsReading, HasForest}
use Rattle.tellings.proofs.Derived.{values_done, values_stop, stats_stop, no_values}
use Rattle.tellings.proofs.Refusing.{input_stops_for}
use Rattle.tellings.proofs.Numbered.{some_numbers}
use Rattle.tellings.proofs.Stopping.{passed_on}
use Rattle.tellings.proofs.Within.{lists_within}
use Rattle.tellings.proofs.values.write_listed.Goals as goal

pub write_derivations-requires-clause-forest : goal.write_derivations-requires-clause-forest
write_derivations-requires-clause-forest g c =
    let has = subst (λ (spans : List Span). HasForest c.args.prepared.now c.requires.read.0 c.args.asked.ranking c.args.chars.now spans c.in_ok-forest.forest) (sym c.deref.ensures.value) (c.in_ok-forest.ensures.forest c.requires.read.0 c.requires.read.1) in
    (has.pieces, has.of)

pub returns-in_err-forest-clause-stops : goal.returns-in_err-forest-clause-stops
returns-in_err-forest-clause-stops g c given is_read =
    let b = c.args.prepared.now in
    let cs = c.args.chars.now in
    let asked = asked_of c.args.asked in
    let before = stream g.O.Sink.contents g.O.Sink.fault_count c.args.out.now in
    let refusal = c.in_err-forest.field-0.0 in
    passed_on (WriteStops (TellsReading (Values asked) b given cs) before before) c.from_residual.result (stop_for refusal) c.from_residual.ensures.1
    (input_stops_for (IsNoDerivation b given asked.ranking cs) (TellsReading (Values asked) b given cs) (no_values asked b given cs) before refusal (c.in_err-forest.ensures.refused given is_read))

pub returns-clause-done : goal.returns-clause-done
returns-clause-done g c given is_read =
    let b = c.args.prepared.now in
    let cs = c.args.chars.now in
    let has = subst (λ (spans : List Span). HasForest b given c.args.asked.ranking cs spans c.in_ok-forest.forest) (sym c.deref.ensures.value) (c.in_ok-forest.ensures.forest given is_read) in
    let (n, (are, numbers)) = some_numbers b given c.args.asked.ranking cs c.deref.result.now c.in_ok-forest.forest has c.known.ensures.built c.known.ensures.accepted in
    on_ok_weaker c.write_stats.result
    (λ more. values_done (asked_of c.args.asked) b given cs c.deref.result.now c.in_ok-forest.forest has n numbers _ _ _ c.in_ok-write_derivations.ensures.written (more n are))
    c.write_stats.ensures.written

pub returns-clause-stops : goal.returns-clause-stops
returns-clause-stops g c given is_read =
    let b = c.args.prepared.now in
    let cs = c.args.chars.now in
    let has = subst (λ (spans : List Span). HasForest b given c.args.asked.ranking cs spans c.in_ok-forest.forest) (sym c.deref.ensures.value) (c.in_ok-forest.ensures.forest given is_read) in
    let (n, (are, numbers)) = some_numbers b given c.args.asked.ranking cs c.deref.result.now c.in_ok-forest.forest has c.known.ensures.built c.known.ensures.accepted in
    MatchResult-weaker c.write_stats.result c.write_stats.ensures.stops (λ _ x. x)
    (λ stop stops. stats_stop (asked_of c.args.asked) b given cs c.deref.result.now c.in_ok-forest.forest has n numbers
    (stream g.O.Sink.contents g.O.Sink.fault_count c.args.out.now) (stream g.O.Sink.contents g.O.Sink.fault_count c.write_derivations.new.out)
    (stream g.O.Sink.contents g.O.Sink.fault_count c.write_stats.new.out) stop c.in_ok-write_derivations.ensures.written c.in_ok-write_derivations.ensures.later (stops n are))

pub returns-in_err-write_derivations-clause-stops : goal.returns-in_err-write_derivations-clause-stops
returns-in_err-write_derivations-clause-stops g c given is_read =
    let b = c.args.prepared.now in
    let cs = c.args.chars.now in
    let asked = asked_of c.args.asked in
    let before = stream g.O.Sink.contents g.O.Sink.fault_count c.args.out.now in
    let after = stream g.O.Sink.contents g.O.Sink.fault_count c.write_derivations.new.out in
    let has = subst (λ (spans : List Span). HasForest b given c.args.asked.ranking cs spans c.in_ok-forest.forest) (sym c.deref.ensures.value) (c.in_ok-forest.ensures.forest given is_read) in
    let (n, (are, numbers)) = some_numbers b given c.args.asked.ranking cs c.deref.result.now c.in_ok-forest.forest has c.known.ensures.built c.known.ensures.accepted in
    let refusal = c.in_err-write_derivations.field-0.0 in
    passed_on (WriteStops (TellsReading (Values asked) b given cs) before after) c.from_residual-in_err-write_derivations.result (write_stop refusal) c.from_residual-in_err-write_derivations.ensures.1
    (values_stop asked b given cs c.deref.result.now c.in_ok-forest.forest has n numbers before after refusal c.in_err-write_derivations.ensures.stops)

pub returns-clause-counted : goal.returns-clause-counted
returns-clause-counted g c given is_read =
    let b = c.args.prepared.now in
    let cs = c.args.chars.now in
    let read = c.args.reading.now in
    let has = subst (λ (spans : List Span). HasForest b given c.args.asked.ranking cs spans c.in_ok-forest.forest) (sym c.deref.ensures.value) (c.in_ok-forest.ensures.forest given is_read) in
    on_ok_weaker c.write_stats.result
    (λ _ start told. lists_within b (asked_of c.args.asked) given cs c.deref.result.now c.in_ok-forest.forest has
    (some_listing b given c.args.asked.ranking cs c.deref.result.now c.in_ok-forest.forest has c.known-2.ensures) read.recce read.spans.items c.place-place.ensures.is is_read _ _ _
    (c.forest_after.ensures.counted start told) c.in_ok-write_derivations.ensures.counted)
    c.write_stats.ensures.written
