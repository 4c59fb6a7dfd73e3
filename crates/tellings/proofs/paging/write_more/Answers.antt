use Rattle.std.proofs.Common.{List, subst, sym}
use Rattle.grammar_core.specs.declared.steps.Span.{Span}
use Rattle.run_model.specs.Outside.{stream}
use Rattle.words_model.specs.Words.Telling.{More}
use Rattle.command_line.specs.Jobs.{more_of}
use Rattle.text_reading.specs.Refusals.{IsNoDerivation}
use Rattle.tellings.specs.Refusals.{stop_for}
use Rattle.tellings.specs.Stops.{WriteStops}
use Rattle.tellings.specs.Telling.{TellsReading, HasForest}
use Rattle.tellings.proofs.Paged.{more_done, more_stop, more_within, none_more}
use Rattle.tellings.proofs.Refusing.{input_stops_for}
use Rattle.tellings.proofs.Stopping.{passed_on}
use Rattle.tellings.proofs.paging.write_more.Goals as goal

pub write_after-requires-clause-forest : goal.write_after-requires-clause-forest
write_after-requires-clause-forest g c =
    let has = subst (λ (spans : List Span). HasForest c.args.prepared.now c.requires.read.0 c.args.asked.ranking c.args.chars.now spans c.in_ok-forest.forest) (sym c.deref.ensures.value)
    (c.in_ok-forest.ensures.forest c.requires.read.0 c.requires.read.1) in
    (has.pieces, has.of)

pub returns-in_err-forest-clause-stops : goal.returns-in_err-forest-clause-stops
returns-in_err-forest-clause-stops g c lexemes is_read =
    let b = c.args.prepared.now in
    let cs = c.args.chars.now in
    let asked = more_of c.args.asked in
    let before = stream g.O.Sink.contents g.O.Sink.fault_count c.args.out.now in
    let refusal = c.in_err-forest.field-0.0 in
    passed_on (WriteStops (TellsReading (More asked) b lexemes cs) before before) c.from_residual.result (stop_for refusal) c.from_residual.ensures.1
    (input_stops_for (IsNoDerivation b lexemes asked.ranking cs) (TellsReading (More asked) b lexemes cs) (none_more asked b lexemes cs) before refusal (c.in_err-forest.ensures.refused lexemes is_read))

pub returns-in-Ok-clause-done : goal.returns-in-Ok-clause-done
returns-in-Ok-clause-done g c lexemes is_read =
    let b = c.args.prepared.now in
    let cs = c.args.chars.now in
    let has = subst (λ (spans : List Span). HasForest b lexemes c.args.asked.ranking cs spans c.in_ok-forest.forest) (sym c.deref.ensures.value) (c.in_ok-forest.ensures.forest lexemes is_read) in
    more_done (more_of c.args.asked) b lexemes cs c.deref.result.now c.in_ok-forest.forest has c.known-2.ensures _ _ c.in-Ok.ensures.written

pub returns-in-Ok-clause-counted : goal.returns-in-Ok-clause-counted
returns-in-Ok-clause-counted g c lexemes is_read =
    let b = c.args.prepared.now in
    let cs = c.args.chars.now in
    let read = c.args.reading.now in
    let has = subst (λ (spans : List Span). HasForest b lexemes c.args.asked.ranking cs spans c.in_ok-forest.forest) (sym c.deref.ensures.value) (c.in_ok-forest.ensures.forest lexemes is_read) in
    let (trees, given, rest, l, place, written) = c.in-Ok.ensures.written has.pieces has.of in
    more_within (more_of c.args.asked) b lexemes cs c.deref.result.now c.in_ok-forest.forest has c.known-2.ensures read.recce read.spans.items c.place-place.ensures.is is_read _ _ _
    c.forest_of.ensures.counted c.in-Ok.ensures.counted trees given rest l place

pub returns-clause-stops : goal.returns-clause-stops
returns-clause-stops g c lexemes is_read =
    let b = c.args.prepared.now in
    let cs = c.args.chars.now in
    let before = stream g.O.Sink.contents g.O.Sink.fault_count c.args.out.now in
    let after = stream g.O.Sink.contents g.O.Sink.fault_count c.write_after.new.out in
    let has = subst (λ (spans : List Span). HasForest b lexemes c.args.asked.ranking cs spans c.in_ok-forest.forest) (sym c.deref.ensures.value) (c.in_ok-forest.ensures.forest lexemes is_read) in
    more_stop (more_of c.args.asked) b lexemes cs c.deref.result.now c.in_ok-forest.forest has c.known-2.ensures before after c.in-Err.refusal c.stop_of.result c.in-Err.ensures.stops c.stop_of.ensures
