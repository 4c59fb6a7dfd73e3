use Rattle.std.proofs.Common.{◌≡◌, ℕ, ◌<◌, ◌≤◌, length, slice_index}
use Rattle.flat_model.specs.Flatten.{Decided}
use Rattle.flat_rules.specs.Tables.{lists_to}
use Rattle.flat_rules.proofs.numbering.list_lists.Given as goal

abbrev pub invariant-loop-i : goal.invariant-loop-i
invariant-loop-i l = record {
  small : length l.lists.items ≤ l.i;
  sized : length l.before.items ≡ l.i;
  few : (j : ℕ) → j < l.i → slice_index l.before.items j ≤ length l.lists.items;
  lists : (d : Decided l.c) → l.lists.items ≡ lists_to l.c d l.i;
  before : (d : Decided l.c) (j : ℕ) → j < l.i → slice_index l.before.items j ≡ length (lists_to l.c d j);
}
