use Rattle.std.proofs.Common.{◌≡◌, length}
use Rattle.grammar_check.specs.Shared.{HasTwo, Marks}
use Rattle.grammar_check.proofs.Sharing.{SeenIn}
use Rattle.grammar_check.proofs.shared.twice_left.Given as goal

abbrev pub invariant-loop-i : goal.invariant-loop-i
invariant-loop-i l = record {
  seen_length : length l.seen.items ≡ length l.w.names;
  twice_length : length l.twice.items ≡ length l.w.names;
  seen : Marks l.seen.items (SeenIn l.w l.i);
  twice : Marks l.twice.items (HasTwo l.w l.i);
}
