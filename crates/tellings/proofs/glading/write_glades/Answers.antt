use Rattle.std.proofs.Common.{◌∙◌, ◌<◌, List, All, length, map, slice_index_or, sym, subst}
use Rattle.std.proofs.lemmas.Result.{on_ok_weaker, MatchResult-weaker}
use Rattle.grammar_model.specs.Grammar.{Grammar}
use Rattle.grammar_model.specs.declared.Ranking.TheVariants.{Rule as RuleRanks}
use Rattle.glade_model.specs.Glades.{Glade}
use Rattle.reading_model.specs.Reading.{edges_of, earleme_after}
use Rattle.words_model.specs.Words.Telling.{Glades}
use Rattle.run_model.specs.Glades.{glade_line}
use Rattle.run_model.specs.Outside.{stream}
use Rattle.text_reading.specs.Refusals.{IsNoDerivation}
use Rattle.tellings.specs.Refusals.{stop_for}
use Rattle.tellings.specs.Stops.{WriteStops}
use Rattle.tellings.specs.Telling.{TellsReading}
use Rattle.tellings.proofs.Compared.{compared, compares_within, glades_as, glades_known, none_compared}
use Rattle.tellings.proofs.Numbered.{some_numbers}
use Rattle.tellings.proofs.Refusing.{input_stops_for}
use Rattle.tellings.proofs.Stopping.{lines_done, lines_stop, memory_stops, passed_on}
use Rattle.tellings.proofs.glading.write_glades.Goals as goal

pub returns-in_err-forest-clause-stops : goal.returns-in_err-forest-clause-stops
returns-in_err-forest-clause-stops g c given is_read =
    let b = c.args.prepared.now in
    let cs = c.args.chars.now in
    let before = stream g.O.Sink.contents g.O.Sink.fault_count c.args.out.now in
    let refusal = c.in_err-forest.field-0.0 in
    passed_on (WriteStops (TellsReading Glades b given cs) before before) c.from_residual.result (stop_for refusal) c.from_residual.ensures.1
    (input_stops_for (IsNoDerivation b given RuleRanks cs) (TellsReading Glades b given cs) (none_compared b given cs) before refusal (c.in_err-forest.ensures.refused given is_read))

pub report_glades-requires-clause-ranking : goal.report_glades-requires-clause-ranking
report_glades-requires-clause-ranking g c = (c.in_ok-forest.ensures.forest c.requires.read.0 c.requires.read.1).ranking_is

pub report_glades-requires-clause-built : goal.report_glades-requires-clause-built
report_glades-requires-clause-built g c = (c.in_ok-forest.ensures.forest c.requires.read.0 c.requires.read.1).of.written ∙ sym c.written-w.ensures

pub returns-in_err-glades-clause-stops : goal.returns-in_err-glades-clause-stops
returns-in_err-glades-clause-stops g c given is_read =
    memory_stops (TellsReading Glades c.args.prepared.now given c.args.chars.now) (stream g.O.Sink.contents g.O.Sink.fault_count c.args.out.now)
    c.from_residual-in_err-glades.result c.from_residual-in_err-glades.ensures.1

pub write_lines_of-requires : goal.write_lines_of-requires
write_lines_of-requires g c =
    let b = c.args.prepared.now in
    let has = c.in_ok-forest.ensures.forest c.requires.read.0 c.requires.read.1 in
    let glades = c.in_ok-glades.glades.items in
    let are = glades_as b c.requires.read.0 c.args.chars.now c.args.reading.now.spans.items c.in_ok-forest.forest has c.known-2.ensures glades c.in_ok-glades.ensures.report in
    subst (λ (w : Grammar). All (λ (x : Glade). x.slot.symbol < length w.names) c.deref.result.now) (sym c.written-w.ensures)
    (subst (λ (xs : List Glade). All (λ (x : Glade). x.slot.symbol < length b.g1.names) xs) (sym c.deref.ensures.value)
    (glades_known b.g1 c.known.ensures.ranges.g1.rules (edges_of has.pieces) (slice_index_or b.g1.starts 0 0) (earleme_after has.pieces) glades are))

pub returns-clause-done : goal.returns-clause-done
returns-clause-done g c given is_read =
    let b = c.args.prepared.now in
    let cs = c.args.chars.now in
    let told = compared b given cs c.args.reading.now.spans.items c.in_ok-forest.forest (c.in_ok-forest.ensures.forest given is_read) c.known-2.ensures c.written-w.result.now c.written-w.ensures
    c.in_ok-glades.glades.items c.deref.result.now c.in_ok-glades.ensures.report c.deref.ensures.value in
    on_ok_weaker c.write_lines_of.result
    (lines_done (TellsReading Glades b given cs) (map (glade_line c.written-w.result.now) c.deref.result.now) told _ _) c.write_lines_of.ensures.written

pub returns-clause-stops : goal.returns-clause-stops
returns-clause-stops g c given is_read =
    let b = c.args.prepared.now in
    let cs = c.args.chars.now in
    let told = compared b given cs c.args.reading.now.spans.items c.in_ok-forest.forest (c.in_ok-forest.ensures.forest given is_read) c.known-2.ensures c.written-w.result.now c.written-w.ensures
    c.in_ok-glades.glades.items c.deref.result.now c.in_ok-glades.ensures.report c.deref.ensures.value in
    MatchResult-weaker c.write_lines_of.result c.write_lines_of.ensures.stops (λ _ x. x)
    (lines_stop (TellsReading Glades b given cs) (map (glade_line c.written-w.result.now) c.deref.result.now) told
    (stream g.O.Sink.contents g.O.Sink.fault_count c.args.out.now) (stream g.O.Sink.contents g.O.Sink.fault_count c.write_lines_of.new.out))

pub returns-clause-counted : goal.returns-clause-counted
returns-clause-counted g c given is_read =
    let b = c.args.prepared.now in
    let read = c.args.reading.now in
    let has = (c.in_ok-forest.ensures.forest given is_read) in
    let (n, (are, numbers)) = some_numbers b given RuleRanks c.args.chars.now read.spans.items c.in_ok-forest.forest has c.known.ensures.built c.known.ensures.accepted in
    on_ok_weaker c.write_lines_of.result
    (λ _. compares_within b given c.args.chars.now read.spans.items c.in_ok-forest.forest has c.known-2.ensures n numbers
    read.recce read.spans.items c.place-place.ensures.is is_read _ _ _ c.forest_of.ensures.counted c.report_glades.ensures.counted)
    c.write_lines_of.ensures.written
