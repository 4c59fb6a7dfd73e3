use Rattle.std.proofs.Common.{◌≡◌, ◌+◌, take}
use Rattle.begun_lists.specs.Closing.{Grows}
use Rattle.begun_lists.proofs.adding.add_items.Given as goal

abbrev pub invariant-loop-item : goal.invariant-loop-item
invariant-loop-item g l = record {
  grows : Grows l.initial.set l.set (take l.item-index l.items);
  counted : l.steps ≡ l.initial.steps + l.item-index;
}
