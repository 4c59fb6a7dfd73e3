use Rattle.std.proofs.Common.{◌≡◌, ◌++◌, take, map}
use Rattle.recognizer_model.specs.Items.{advanced}
use Rattle.earley_sets.proofs.follow.list_advanced.Given as goal

abbrev pub invariant-loop-k : goal.invariant-loop-k
invariant-loop-k l = l.next.items ≡ l.initial.next.items ++ map advanced (take l.k l.waiting)
