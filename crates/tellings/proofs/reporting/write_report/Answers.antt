use Rattle.std.proofs.Common.{Err, ℕ, List, Vec, Global, map, sym, subst, ap}
use Rattle.std.proofs.lemmas.Result.{on_ok_weaker, MatchResult-weaker}
use Rattle.grammar_model.specs.Grammar.{Grammar}
use Rattle.recognizer_model.specs.FlatForm.{IsFlatOf}
use Rattle.recognizer_model.specs.declared.ReportLine.{ReportLine}
use Rattle.reading_model.specs.Reading.{edges_of}
use Rattle.report_model.specs.Report.{IsReport}
use Rattle.run_model.specs.Outside.{stream}
use Rattle.words_model.specs.Words.Telling.{Report}
use Rattle.run_model.specs.Telling.{done}
use Rattle.slif_base.proofs.Bytes.{appends_none}
use Rattle.tellings.specs.Telling.{TellsReading}
use Rattle.tellings.proofs.Stopping.{lines_done, lines_stop}
use Rattle.tellings.proofs.Reported.{report_as, report_known, reported, past_last, within_from}
use Rattle.tellings.proofs.reporting.write_report.Goals as goal

pub report-requires : goal.report-requires
report-requires g c = subst (λ (w : Grammar). IsFlatOf c.args.reading.now.recce.flat w) (sym c.written.ensures) c.requires.1.holds.flat.made

pub report_lines-requires : goal.report_lines-requires
report_lines-requires g c =
    let b = c.args.prepared.now in
    let r = report_as b c.requires.0 c.args.chars.now c.args.reading.now.recce c.args.reading.now.spans.items c.requires.1 c.args.at c.known.ensures.accepted c.place-last.ensures.is c.written.result.now c.in-Ok.items.items c.written.ensures c.in-Ok.ensures.report in
    report_known c.written-in-Ok.result.now (edges_of c.requires.1.pieces) 0 c.args.at c.deref.result.now
    (subst (λ (w : Grammar). IsReport w (edges_of c.requires.1.pieces) 0 c.args.at c.deref.result.now) (sym c.written-in-Ok.ensures)
    (subst (λ (ls : List ReportLine). IsReport b.g1 (edges_of c.requires.1.pieces) 0 c.args.at ls) (sym c.deref.ensures.value) r))

pub returns-in_ok-lines-in-Ok-clause-done : goal.returns-in_ok-lines-in-Ok-clause-done
returns-in_ok-lines-in-Ok-clause-done g c given is_read =
    let b = c.args.prepared.now in
    let P = TellsReading (Report c.args.at) b given c.args.chars.now in
    let items : Vec ℕ Global → List ℕ = λ v. v.items in
    let r = report_as b given c.args.chars.now c.args.reading.now.recce c.args.reading.now.spans.items is_read c.args.at c.known.ensures.accepted c.place-last.ensures.is c.written.result.now c.in-Ok.items.items c.written.ensures c.in-Ok.ensures.report in
    let told = reported b given c.args.chars.now c.args.reading.now.recce c.args.reading.now.spans.items is_read c.args.at c.written-in-Ok.result.now c.in-Ok.items.items c.deref.result.now
    (map items c.in_ok-lines-in-Ok.lines.items) c.written-in-Ok.ensures (within_from _ _ c.in-Ok.ensures.no_such_set) r c.deref.ensures.value c.in_ok-lines-in-Ok.ensures in
    let is : P (done (map items c.deref-in-Ok.result.now)) = subst (λ (vs : List (Vec ℕ Global)). P (done (map items vs))) (sym c.deref-in-Ok.ensures.value) told in
    on_ok_weaker c.write_lines.result (lines_done P (map items c.deref-in-Ok.result.now) is _ _) c.write_lines.ensures.written

pub returns-in_ok-lines-in-Ok-clause-stops : goal.returns-in_ok-lines-in-Ok-clause-stops
returns-in_ok-lines-in-Ok-clause-stops g c given is_read =
    let b = c.args.prepared.now in
    let P = TellsReading (Report c.args.at) b given c.args.chars.now in
    let items : Vec ℕ Global → List ℕ = λ v. v.items in
    let r = report_as b given c.args.chars.now c.args.reading.now.recce c.args.reading.now.spans.items is_read c.args.at c.known.ensures.accepted c.place-last.ensures.is c.written.result.now c.in-Ok.items.items c.written.ensures c.in-Ok.ensures.report in
    let told = reported b given c.args.chars.now c.args.reading.now.recce c.args.reading.now.spans.items is_read c.args.at c.written-in-Ok.result.now c.in-Ok.items.items c.deref.result.now
    (map items c.in_ok-lines-in-Ok.lines.items) c.written-in-Ok.ensures (within_from _ _ c.in-Ok.ensures.no_such_set) r c.deref.ensures.value c.in_ok-lines-in-Ok.ensures in
    let is : P (done (map items c.deref-in-Ok.result.now)) = subst (λ (vs : List (Vec ℕ Global)). P (done (map items vs))) (sym c.deref-in-Ok.ensures.value) told in
    MatchResult-weaker c.write_lines.result c.write_lines.ensures.stops (λ _ x. x)
    (lines_stop P (map items c.deref-in-Ok.result.now) is
    (stream g.O.Sink.contents g.O.Sink.fault_count c.args.out.now) (stream g.O.Sink.contents g.O.Sink.fault_count c.write_lines.new.out))

pub returns-in_ok-text-in-Err-NoSuchSet-clause-stops : goal.returns-in_ok-text-in-Err-NoSuchSet-clause-stops
returns-in_ok-text-in-Err-NoSuchSet-clause-stops g c given is_read = (
  past_last c.args.prepared.now given c.args.chars.now c.args.reading.now.recce c.args.reading.now.spans.items is_read c.args.at c.in_ok-text-in-Err-NoSuchSet.text.items c.place-last.result
      (c.in-Err-NoSuchSet.ensures.no_such_set.0 (ap Err c.in-Err-NoSuchSet.field-0-is)) c.place-last.ensures.place c.in_ok-text-in-Err-NoSuchSet.ensures,
  appends_none _,
)
