use Rattle.std.proofs.Common.{◌≡◌, ℕ, Option, Some, slice_get, length}
use Rattle.glade_groups.proofs.marks.single_marks.Given as goal

abbrev pub invariant-loop : goal.invariant-loop
invariant-loop l = record {
  long : length l.marks.items ≡ l.index;
  each : (k : ℕ) (mark : Option ℕ) → slice_get l.marks.items k ≡ Some mark → mark ≡ Some 0;
}
