use Rattle.std.proofs.Common.{◌≡◌, ◌≤◌}
use Rattle.recognizer_model.specs.declared.Item.{Item}
use Rattle.forest_parts.proofs.Gathering.{Gains, ByFirst}
use Rattle.forest_parts.proofs.needed.put_all_late.Given as goal

abbrev pub invariant-loop-item : goal.invariant-loop-item
invariant-loop-item l = Gains (ByFirst (λ (item x : Item). (x ≡ item) × (l.least ≤ item.origin)) l.given l.item-index) l.initial.items.items l.items.items
