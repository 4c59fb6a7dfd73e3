use Rattle.std.proofs.Common.{◌≡◌}
use Rattle.recognizer_model.specs.declared.Item.{Item}
use Rattle.forest_parts.proofs.Gathering.{Gains, ByFirst}
use Rattle.forest_parts.proofs.needed.put_all.Given as goal

abbrev pub invariant-loop-item : goal.invariant-loop-item
invariant-loop-item l = Gains (ByFirst (λ (item x : Item). x ≡ item) l.items l.item-index) l.initial.set.keys l.set.keys
