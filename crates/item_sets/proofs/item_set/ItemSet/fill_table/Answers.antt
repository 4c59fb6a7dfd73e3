use Rattle.std.proofs.Common.{◌≤◌, List, length, sym, subst}
use Rattle.recognizer_model.specs.declared.Item.{Item}
use Rattle.item_sets.specs.Held.{HasFirst}
use Rattle.item_sets.proofs.Holding.{held_filled}
use Rattle.item_sets.proofs.item_set.ItemSet.fill_table.Goals as goal

pub fill-self-inside-requires-clause-first : goal.fill-self-inside-requires-clause-first
fill-self-inside-requires-clause-first c = subst (λ (l : List Item). HasFirst c.self.inside.table.keys l c.self.inside.filled) (sym c.deref.ensures.value) c.self.invariant.0.first

pub invariant_of-self : goal.invariant_of-self
invariant_of-self c = (
  held_filled c.self.inside.items.items c.self.inside.table.keys c.fill-self-inside.new.table.keys c.self.inside.filled c.fill-self-inside.result c.self.inside.least c.self.invariant.0
      (subst (λ (l : List Item). c.fill-self-inside.result ≤ length l) c.deref.ensures.value c.fill-self-inside.ensures.within)
      (subst (λ (l : List Item). HasFirst c.fill-self-inside.new.table.keys l c.fill-self-inside.result) c.deref.ensures.value c.fill-self-inside.ensures.first),
  c.self.invariant.1,
)
