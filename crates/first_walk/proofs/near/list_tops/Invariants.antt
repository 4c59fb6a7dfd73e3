use Rattle.std.proofs.Common.{◌≡◌, []}
use Rattle.recognizer_model.specs.declared.Item.{Item}
use Rattle.forest_parts.proofs.Gathering.{Gains, ByFirst}
use Rattle.forest_parts.specs.Needed.{LeadsOver}
use Rattle.first_walk.proofs.near.list_tops.Given as goal

abbrev pub invariant-loop-k : goal.invariant-loop-k
invariant-loop-k l = record {
  tops : Gains (ByFirst (λ (item x : Item). LeadsOver l.recce [] l.end l.least item x) l.set l.k) [] l.tops.items;
  bottoms : Gains (ByFirst (λ (item x : Item). (x ≡ item) × ((top : Item) × LeadsOver l.recce [] l.end l.least item top)) l.set l.k) [] l.bottoms.items;
}
