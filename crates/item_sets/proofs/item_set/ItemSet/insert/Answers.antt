use Rattle.std.proofs.Common.{List, Contains, inr, subst}
use Rattle.std.proofs.lemmas.Result.{on_ok_weaker}
use Rattle.recognizer_model.specs.declared.Item.{Item}
use Rattle.item_sets.proofs.Holding.{not_below}
use Rattle.item_sets.proofs.item_set.ItemSet.insert.Goals as goal

pub push-requires : goal.push-requires
push-requires c =
    subst (λ (l : List Item). ¬ Contains l c.args.item) c.self.view_is
    (not_below c.self.inside.items.items c.self.inside.table.keys c.self.inside.filled c.self.inside.least c.args.item c.self.invariant.0 c.if-item-self.true)

pub returns-then-item-self-clause-ok : goal.returns-then-item-self-clause-ok
returns-then-item-self-clause-ok c =
    let apart = subst (λ (l : List Item). ¬ Contains l c.args.item) c.self.view_is
    (not_below c.self.inside.items.items c.self.inside.table.keys c.self.inside.filled c.self.inside.least c.args.item c.self.invariant.0 c.if-item-self.true) in
    on_ok_weaker c.push.result (λ is. inr (is, apart)) c.push.ensures.ok
