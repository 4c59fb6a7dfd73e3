use Rattle.std.proofs.Common.{◌≢◌, List, subst}
use Rattle.std.specs.List.{AllPairs}
use Rattle.recognizer_model.specs.declared.Item.{Item}
use Rattle.item_sets.proofs.item_set.ItemSet.as_slice.Goals as goal

pub returns-clause-once : goal.returns-clause-once
returns-clause-once c = subst (λ (l : List Item). AllPairs (λ x y. x ≢ y) l) c.self.view_is c.self.invariant.0.once
