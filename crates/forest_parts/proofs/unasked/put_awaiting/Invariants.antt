use Rattle.std.proofs.Common.{◌≡◌}
use Rattle.recognizer_model.specs.declared.Item.{Item}
use Rattle.recognizer_model.specs.Items.{advanced}
use Rattle.forest_parts.specs.Unasked.{Takes}
use Rattle.forest_parts.proofs.Gathering.{ByFirst}
use Rattle.forest_parts.proofs.unasked.put_awaiting.Given as goal

abbrev pub invariant-loop-k : goal.invariant-loop-k
invariant-loop-k l = Takes l.recce (ByFirst (λ (w x : Item). x ≡ advanced w) l.waiting l.k) l.initial.items.keys l.items.keys
