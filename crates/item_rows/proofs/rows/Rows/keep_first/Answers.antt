use Rattle.std.proofs.Common.{◌∙◌, sym, ap, subst, List, length}
use Rattle.recognizer_model.specs.declared.Item.{Item}
use Rattle.kernels.specs.Shapes.{Kernel}
use Rattle.item_rows.specs.Held.{AreHeld}
use Rattle.item_rows.proofs.Holding.{seen, held_first, seen_first}
use Rattle.item_rows.proofs.Noting.{none_noted}
use Rattle.item_rows.proofs.rows.Rows.keep_first.Goals as goal

pub invariant_of-self : goal.invariant_of-self
invariant_of-self c = (
  subst (λ (k : List Kernel). AreHeld c.self.inside.dotted.rules c.self.inside.lists k c.len-count.result) (sym c.keep_first.ensures)
      (held_first c.self.inside.dotted.flat c.self.inside.dotted.rules c.self.inside.lists c.self.inside.kernels c.args.self.now c.self.view_is c.self.inside.count c.self.invariant.0 c.requires c.len-count.result (c.len-count.ensures ∙ ap (λ (l : List Item). length l) c.row.ensures)),
  none_noted _ _ _ _ _ c.clear.ensures,
)

pub returns : goal.returns
returns c =
    ap (λ (k : List Kernel). seen c.self.inside.dotted.flat c.self.inside.dotted.rules c.self.inside.lists k) c.keep_first.ensures
    ∙ seen_first c.self.inside.dotted.flat c.self.inside.dotted.rules c.self.inside.lists c.self.inside.kernels c.args.self.now c.self.view_is c.self.inside.count c.self.invariant.0 c.requires
