use Rattle.std.proofs.Common.{◌≡◌, ◌≤◌}
use Rattle.marpa_script.proofs.Deriving.{HasTold}
use Rattle.marpa_script.proofs.trees.write_trees.Given as goal

abbrev pub invariant-loop-told : goal.invariant-loop-told
invariant-loop-told g l = record {
  forest : l.iter.forest ≡ l.fn.iter.forest;
  lines : HasTold l.w l.iter l.told (g.K.Sink.contents l.fn.out) (g.K.Sink.contents l.out);
  later : g.K.Sink.fault_count l.fn.out ≤ g.K.Sink.fault_count l.out;
}
