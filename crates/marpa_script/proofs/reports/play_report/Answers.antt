use Rattle.std.proofs.Common.{◌≡◌, ◌<◌, ◌≤◌, Err, List, map, length, ap, sym, subst}
use Rattle.std.specs.Prelude.{All}
use Rattle.std.proofs.lemmas.Result.{on_ok_weaker, on_err_weaker}
use Rattle.recognizer_model.specs.declared.ReportLine.{ReportLine}
use Rattle.report_model.specs.Report.{IsReport}
use Rattle.earley_sets.specs.Recognizer.{earleme_of}
use Rattle.marpa_script.proofs.Writing.{none_said}
use Rattle.marpa_script.proofs.Reporting.{report_is, rules_known, report_told, report_broken, no_set_told, no_set_broken, within_from}
use Rattle.marpa_script.proofs.reports.play_report.Goals as goal

pub write_report-requires : goal.write_report-requires
write_report-requires g c =
    let is = report_is c.args.w.now c.args.recce.now c.args.at c.requires c.place-place.ensures.is c.in-Ok.items.items c.in-Ok.ensures.report in
    subst (All (λ (l : ReportLine). l.rule < length c.args.w.now.rules)) (sym c.deref.ensures.value) (rules_known c.args.w.now c.args.recce.now c.args.at c.requires c.place-place.ensures.is c.in-Ok.items.items is)

pub returns-in-Ok-clause-played : goal.returns-in-Ok-clause-played
returns-in-Ok-clause-played g c =
    let is = report_is c.args.w.now c.args.recce.now c.args.at c.requires c.place-place.ensures.is c.in-Ok.items.items c.in-Ok.ensures.report in
    let here = subst (λ (ls : List ReportLine). IsReport c.args.w.now c.args.recce.now.edges 0 c.args.at ls) (sym c.deref.ensures.value) is in
    on_ok_weaker c.write_report.result
    (report_told c.args.w.now c.args.recce.now c.args.at c.requires c.place-place.ensures.is _ _ c.deref.result.now here (within_from c.args.at (earleme_of c.args.recce.now) c.in-Ok.ensures.no_such_set)) c.write_report.ensures.ok

pub returns-in-Ok-clause-breaks : goal.returns-in-Ok-clause-breaks
returns-in-Ok-clause-breaks g c =
    let is = report_is c.args.w.now c.args.recce.now c.args.at c.requires c.place-place.ensures.is c.in-Ok.items.items c.in-Ok.ensures.report in
    let here = subst (λ (ls : List ReportLine). IsReport c.args.w.now c.args.recce.now.edges 0 c.args.at ls) (sym c.deref.ensures.value) is in
    on_err_weaker c.write_report.result
    (report_broken c.args.w.now c.args.recce.now c.args.at c.requires c.place-place.ensures.is _ _ c.deref.result.now here (within_from c.args.at (earleme_of c.args.recce.now) c.in-Ok.ensures.no_such_set)) c.write_report.ensures.err

pub returns-in-Err-NoSuchSet-clause-played : goal.returns-in-Err-NoSuchSet-clause-played
returns-in-Err-NoSuchSet-clause-played g c =
    on_ok_weaker c.write_count.result
    (no_set_told c.args.w.now c.args.recce.now c.args.at c.requires c.place-place.ensures.is _ _ (c.in-Err-NoSuchSet.ensures.no_such_set.0 (ap Err c.in-Err-NoSuchSet.field-0-is))) c.write_count.ensures.ok

pub returns-in-Err-NoSuchSet-clause-breaks : goal.returns-in-Err-NoSuchSet-clause-breaks
returns-in-Err-NoSuchSet-clause-breaks g c =
    on_err_weaker c.write_count.result
    (no_set_broken c.args.w.now c.args.recce.now c.args.at c.requires c.place-place.ensures.is _ _ (c.in-Err-NoSuchSet.ensures.no_such_set.0 (ap Err c.in-Err-NoSuchSet.field-0-is))) c.write_count.ensures.err

pub returns-in-Err-NoMemory-clause-breaks : goal.returns-in-Err-NoMemory-clause-breaks
returns-in-Err-NoMemory-clause-breaks g c = none_said _ (g.K.Sink.contents c.args.out.now)
