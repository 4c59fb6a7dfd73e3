use Rattle.item_sets.proofs.item_set.ItemSet.into_items.Goals as goal

pub returns-clause-once : goal.returns-clause-once
returns-clause-once c = c.self.invariant.0.once
