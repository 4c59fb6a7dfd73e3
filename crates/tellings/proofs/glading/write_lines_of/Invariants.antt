use Rattle.std.proofs.Common.{◌≤◌, map, take}
use Rattle.std.specs.List.{concat}
use Rattle.std.specs.Io.KnownBytes.{Appends}
use Rattle.run_model.specs.Glades.{glade_line}
use Rattle.tellings.proofs.glading.write_lines_of.Given as goal

abbrev pub invariant-loop-glade : goal.invariant-loop-glade
invariant-loop-glade g l = record {
  written : Appends (g.O.Sink.contents l.fn.out) (g.O.Sink.contents l.out) (concat (take l.glade-index (map (glade_line l.w) l.glades)));
  later : g.O.Sink.fault_count l.fn.out ≤ g.O.Sink.fault_count l.out;
}
