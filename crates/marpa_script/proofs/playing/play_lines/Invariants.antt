use Rattle.std.proofs.Common.{◌≤◌, length}
use denote.Shadow.{shadow}
use denote.Text.{Utf8}
use Rattle.marpa_script.proofs.Writing.{IsBuilding}
use Rattle.marpa_script.proofs.playing.play_lines.Given as goal

abbrev pub invariant-loop-rest : goal.invariant-loop-rest
invariant-loop-rest g l = record {
  text : shadow (Utf8 l.rest);
  building : IsBuilding l.text l.rest l.w (g.K.Sink.contents l.fn.out) (g.K.Sink.contents l.out);
  later : g.K.Sink.fault_count l.fn.out ≤ g.K.Sink.fault_count l.out;
}

abbrev pub decreases-loop-rest : goal.decreases-loop-rest
decreases-loop-rest g l = length l.rest
