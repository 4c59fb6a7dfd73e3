use Rattle.std.proofs.Common.{List, Contains, sym, subst}
use Rattle.recognizer_model.specs.declared.Item.{Item}
use Rattle.item_sets.specs.Held.{IsHeld}
use Rattle.item_sets.proofs.Holding.{held_push, marked_push}
use Rattle.item_sets.proofs.item_set.ItemSet.push.Goals as goal

pub invariant_of-self-2 : goal.invariant_of-self-2
invariant_of-self-2 c = (
  subst (λ (l : List Item). IsHeld l c.self.inside.table.keys c.self.inside.filled c.min-self-inside.result) (sym c.in_ok-push.ensures.items)
      (held_push c.self.inside.items.items c.self.inside.table.keys c.self.inside.filled c.self.inside.least c.min-self-inside.result c.args.item
      (subst (λ (l : List Item). ¬ Contains l c.args.item) (sym c.self.view_is) c.requires)
      c.self.invariant.0 c.min-self-inside.ensures),
  marked_push c.self.inside.marks.items c.mark.new.marks.items c.self.inside.items.items c.push.new.self.items c.args.item c.self.invariant.1 c.mark.ensures.here c.mark.ensures.kept c.in_ok-push.ensures.items,
)
