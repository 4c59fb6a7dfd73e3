use Rattle.first_walk.proofs.joined.end_of_item.Goals as goal

pub returns-then-not-has_item-clause-same : goal.returns-then-not-has_item-clause-same
returns-then-not-has_item-clause-same c = c.loop-past.invariant
