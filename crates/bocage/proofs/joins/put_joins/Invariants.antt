use Rattle.std.proofs.Common.{◌≡◌, ◌≤◌}
use Rattle.recognizer_model.specs.declared.Item.{Item}
use Rattle.forest_parts.proofs.Gathering.{Gains, ByFirst}
use Rattle.bocage.specs.declared.joins.Join.{Join}
use Rattle.bocage.specs.Joins.{predecessor_of_join}
use Rattle.bocage.proofs.joins.put_joins.Given as goal

abbrev pub invariant-loop-k : goal.invariant-loop-k
invariant-loop-k l = Gains (ByFirst (λ (item : Item) (j : Join). (j.group ≡ l.number) × (predecessor_of_join j ≡ item) × (l.least ≤ item.origin)) l.waiting l.k) l.initial.joins.items l.joins.items
