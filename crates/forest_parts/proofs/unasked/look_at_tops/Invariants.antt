use Rattle.std.proofs.Common.{◌≤◌}
use Rattle.recognizer_model.specs.declared.Item.{Item}
use Rattle.earley_sets.specs.Below.{LeadsUp}
use Rattle.forest_parts.specs.Unasked.{Tells}
use Rattle.forest_parts.proofs.Gathering.{ByFirst}
use Rattle.forest_parts.proofs.unasked.look_at_tops.Given as goal

abbrev pub invariant-loop-k : goal.invariant-loop-k
invariant-loop-k l = Tells l.w l.ranking l.recce l.keys.keys l.end (ByFirst (λ (item x : Item). LeadsUp l.recce l.end item x × (l.least ≤ x.origin)) l.set l.k) l.initial.unasked.keys l.initial.asked.keys l.unasked.keys l.asked.keys
