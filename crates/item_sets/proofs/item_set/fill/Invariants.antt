use Rattle.std.proofs.Common.{ℕ, ◌-◌, ◌≤◌, List, length}
use Rattle.recognizer_model.specs.declared.Item.{Item}
use Rattle.item_sets.specs.Held.{HasFirst}
use Rattle.item_sets.proofs.item_set.fill.Given as goal

pub record IsFilled (table items : List Item) (count : ℕ) : Type 0 where
  pub within : count ≤ length items
  pub first : HasFirst table items count

abbrev pub invariant-loop-count : goal.invariant-loop-count
invariant-loop-count l = IsFilled l.table.keys l.items l.count

abbrev pub decreases-loop-count : goal.decreases-loop-count
decreases-loop-count l = length l.items - l.count
