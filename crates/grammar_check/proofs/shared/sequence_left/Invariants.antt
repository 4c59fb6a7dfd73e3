use Rattle.std.proofs.Common.{◌≡◌, length}
use Rattle.grammar_check.specs.Shared.{HasSequence, Marks}
use Rattle.grammar_check.proofs.shared.sequence_left.Given as goal

abbrev pub invariant-loop-i : goal.invariant-loop-i
invariant-loop-i l = record {
  sized : length l.marks.items ≡ length l.w.names;
  marks : Marks l.marks.items (HasSequence l.w l.i);
}
