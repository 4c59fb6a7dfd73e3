use Rattle.std.specs.Prelude.{IfErr, OnOk}
use Rattle.std.specs.Io.KnownBytes.{Appends}
use Rattle.slif_base.proofs.Bytes.{appends_none}
use Rattle.run_model.specs.Outside.{stream}
use Rattle.std.proofs.Common.{subst}
use Rattle.grammar_core.specs.Written.{IsWritten}
use Rattle.value_lines.specs.Paging.{PageHas, PageStops}
use Rattle.value_lines.specs.declared.page.Page.{Page}
use Rattle.tellings.proofs.Paged.{none_named}
use Rattle.tellings.proofs.paging.write_after.Goals as goal

pub returns-in-Err-BadCursor-clause-stops : goal.returns-in-Err-BadCursor-clause-stops
returns-in-Err-BadCursor-clause-stops g c =
    let b = c.args.prepared.now in
    let (pieces, of) = c.requires.forest in (
      none_named b (subst IsWritten c.written.ensures c.known-2.ensures) c.known.ensures.accepted.checked.structural
          c.args.chars.now c.args.spans.now c.args.forest.now pieces of c.args.asked.after.now (c.in-Err-BadCursor.ensures.bad c.in-Err-BadCursor.field-0-is),
      appends_none (g.O.Sink.contents c.args.out.now),
    )

pub returns-clause-written : goal.returns-clause-written
returns-clause-written g c =
    subst (λ (p : Page). OnOk c.write_page.result (PageHas c.args.prepared.now p.show p.first p.after.now c.args.chars.now c.args.spans.now c.args.forest.now
    (λ text. Appends (g.O.Sink.contents c.args.out.now) (g.O.Sink.contents c.write_page.new.out) text))) c.page_of-page.ensures c.write_page.ensures.written

pub returns-clause-stops : goal.returns-clause-stops
returns-clause-stops g c =
    subst (λ (p : Page). IfErr c.write_page.result (PageStops c.args.prepared.now p.show p.first p.after.now c.args.chars.now c.args.spans.now c.args.forest.now
    (stream g.O.Sink.contents g.O.Sink.fault_count c.args.out.now) (stream g.O.Sink.contents g.O.Sink.fault_count c.write_page.new.out))) c.page_of-page.ensures c.write_page.ensures.stops
