use Rattle.std.proofs.Common.{◌≡◌, ℕ, List, Some, map, slice_get, arith}
use Rattle.run_model.specs.Glades.{glade_line}
use Rattle.run_model.specs.Outside.{stream}
use Rattle.tellings.specs.Stops.{LinesStop}
use Rattle.tellings.proofs.Lines.{one_more_written, line_stops, mapped_item}
use Rattle.tellings.proofs.Stopping.{passed_on}
use Rattle.tellings.proofs.glading.write_lines_of.Goals as goal

pub returns-in_err-write_line-clause-stops : goal.returns-in_err-write_line-clause-stops
returns-in_err-write_line-clause-stops g c =
    let k = c.loop-glade.glade-index in
    let lines : List (List ℕ) = map (glade_line c.args.w.now) c.args.glades.now in
    let line : List ℕ = glade_line c.args.w.now c.glade-item.result in
    let e : slice_get lines k ≡ Some line =
    mapped_item (glade_line c.args.w.now) c.args.glades.now k c.glade-item.result (omega (arith, c.loop-glade-test.true, c.loop-glade.auto.glade-index-end)) c.glade-item.is in
    let before = stream g.O.Sink.contents g.O.Sink.fault_count c.args.out.now in
    let middle = stream g.O.Sink.contents g.O.Sink.fault_count c.loop-glade.out in
    let after = stream g.O.Sink.contents g.O.Sink.fault_count c.write_line.new.out in
    let stop = c.in_err-write_line.field-0.0 in
    passed_on (LinesStop lines before after) c.from_residual.result stop c.from_residual.ensures.1
    (line_stops lines k line before middle after stop e c.loop-glade.invariant.written c.loop-glade.invariant.later c.in_err-write_line.ensures.stops)

pub loop-glade-preserved : goal.loop-glade-preserved
loop-glade-preserved g c =
    let k = c.loop-glade.glade-index in
    let lines : List (List ℕ) = map (glade_line c.args.w.now) c.args.glades.now in
    let line : List ℕ = glade_line c.args.w.now c.glade-item.result in
    let e : slice_get lines k ≡ Some line =
    mapped_item (glade_line c.args.w.now) c.args.glades.now k c.glade-item.result (omega (arith, c.loop-glade-test.true, c.loop-glade.auto.glade-index-end)) c.glade-item.is in
    record {
      written = one_more_written lines k line _ _ _ e c.loop-glade.invariant.written c.in_ok-write_line.ensures.written;
      later = omega (arith, c.loop-glade.invariant.later, c.write_line.ensures.out_later);
    }
