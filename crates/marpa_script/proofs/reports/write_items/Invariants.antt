use Rattle.std.proofs.Common.{◌≤◌, map, take}
use Rattle.std.specs.List.{concat}
use Rattle.std.specs.Io.KnownBytes.{Appends}
use Rattle.report_model.specs.Lines.{report_line}
use Rattle.marpa_script.proofs.reports.write_items.Given as goal

abbrev pub invariant-loop-item : goal.invariant-loop-item
invariant-loop-item g l = record {
  written : Appends (g.K.Sink.contents l.fn.out) (g.K.Sink.contents l.out) (concat (map (report_line l.w l.fn.at) (take l.item-index l.items)));
  later : g.K.Sink.fault_count l.fn.out ≤ g.K.Sink.fault_count l.out;
}
