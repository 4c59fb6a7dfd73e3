use Rattle.std.proofs.Common.{List, sym, subst}
use Rattle.recognizer_model.specs.declared.Item.{Item}
use Rattle.item_sets.specs.Held.{HasFirst}
use Rattle.item_sets.proofs.item_set.ItemSet.is_found.Goals as goal

pub is_held-requires-clause-first : goal.is_held-requires-clause-first
is_held-requires-clause-first c = subst (λ (l : List Item). HasFirst c.self.inside.table.keys l c.self.inside.filled) (sym c.deref-else-len-le-FEW.ensures.value) c.self.invariant.0.first
