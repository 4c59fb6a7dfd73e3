use Rattle.std.proofs.Common.{◌≤◌}
use Rattle.slif_glades.proofs.Marked.{IsUpTo}
use Rattle.slif_glades.proofs.telling.tell_glades.Given as goal

abbrev pub invariant-loop-at : goal.invariant-loop-at
invariant-loop-at g l = record {
  written : IsUpTo l.grammar.g1 l.forest.read l.glades l.marks l.at (g.K.Sink.contents l.fn.out) (g.K.Sink.contents l.out);
  later : g.K.Sink.fault_count l.fn.out ≤ g.K.Sink.fault_count l.out;
}
