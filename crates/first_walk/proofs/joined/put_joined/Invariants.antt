use Rattle.std.proofs.Common.{◌≡◌}
use Rattle.recognizer_model.specs.declared.Item.{Item}
use Rattle.forest_parts.proofs.Gathering.{Gains, ByFirst}
use Rattle.first_walk.specs.declared.joined.Joined.{Joined}
use Rattle.first_walk.specs.Joined.{item_of_joined}
use Rattle.first_walk.proofs.joined.put_joined.Given as goal

abbrev pub invariant-loop-k : goal.invariant-loop-k
invariant-loop-k l = Gains (ByFirst (λ (item : Item) (j : Joined). (j.part ≡ l.number) × (item_of_joined j ≡ item)) l.waiting l.k) l.initial.joined.items l.joined.items
