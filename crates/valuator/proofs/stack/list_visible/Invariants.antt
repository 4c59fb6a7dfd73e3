use Rattle.std.proofs.Common.{◌≡◌, ◌++◌, length}
use Rattle.std.specs.List.{items_where_true}
use Rattle.valuator.proofs.stack.list_visible.Given as goal

abbrev pub invariant-loop-child : goal.invariant-loop-child
invariant-loop-child l = record {
  picked : l.ids.items ++ items_where_true l.child-iterator.b.rest.now l.child-iterator.a.rest.now ≡ items_where_true l.fn.shown l.fn.children;
  pairs : length l.child-iterator.b.rest.now ≡ length l.child-iterator.a.rest.now;
}
