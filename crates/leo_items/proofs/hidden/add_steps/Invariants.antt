use Rattle.std.proofs.Common.{◌≡◌, ◌++◌, List}
use Rattle.recognizer_model.specs.declared.Item.{Item}
use Rattle.leo_items.specs.Hidden.{IsSingleStep}
use Rattle.leo_items.specs.Closed.{IsClosedTo}
use Rattle.leo_items.proofs.hidden.add_steps.Given as goal

abbrev pub invariant-loop-k : goal.invariant-loop-k
invariant-loop-k l = IsClosedTo l.flat (IsSingleStep l.flat l.rows.sets l.earleme l.from) l.initial.set l.set l.k × ((more : List Item) × (l.set ≡ l.initial.set ++ more))
