use Rattle.std.proofs.Common.{◌≡◌, ℕ, Option, Some, slice_get, length}
use Rattle.glade_model.specs.Glades.{Glade}
use Rattle.glade_groups.specs.Groups.{IsMark}
use Rattle.glade_groups.proofs.marks.marks_of.Given as goal

abbrev pub invariant-loop-at : goal.invariant-loop-at
invariant-loop-at l = record {
  long : length l.marks.items ≡ l.at;
  each : (k : ℕ) (glade : Glade) (mark : Option ℕ) → slice_get l.glades k ≡ Some glade → slice_get l.marks.items k ≡ Some mark → IsMark l.glades k glade mark;
}
