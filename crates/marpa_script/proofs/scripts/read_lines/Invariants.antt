use Rattle.std.proofs.Common.{◌≤◌, ℕ, List, Option, length}
use denote.Shadow.{shadow}
use denote.Text.{Utf8}
use Rattle.marpa_script.specs.Machines.{reading, ReadsBy}
use Rattle.marpa_script.specs.Written.{HasPlayedTo}
use Rattle.marpa_script.proofs.scripts.read_lines.Given as goal

abbrev pub invariant-loop-rest : goal.invariant-loop-rest
invariant-loop-rest g l = record {
  text : shadow (Utf8 l.rest);
  reads : ReadsBy l.w l.recce;
  played : (whole : List ℕ) (first : Option (List ℕ)) → HasPlayedTo whole l.text (reading l.w l.fn.recce) first (g.K.Sink.contents l.fn.out) → HasPlayedTo whole l.rest (reading l.w l.recce) first (g.K.Sink.contents l.out);
  later : g.K.Sink.fault_count l.fn.out ≤ g.K.Sink.fault_count l.out;
}

abbrev pub decreases-loop-rest : goal.decreases-loop-rest
decreases-loop-rest g l = length l.rest
