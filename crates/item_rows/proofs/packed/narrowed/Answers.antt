use Rattle.std.proofs.Common.{◌∙◌, sym, ap, subst, List}
use Rattle.recognizer_model.specs.declared.Item.{Item}
use Rattle.kernels.specs.Slots.{placed_all}
use Rattle.jagged.specs.Rows.{row_at as list_at}
use Rattle.item_rows.specs.Dotted.{row_items, IsRowOfParts}
use Rattle.item_rows.proofs.Joined.{parts_within}
use Rattle.item_rows.proofs.Placing.{own_slotted, placed_within}
use Rattle.item_rows.proofs.packed.narrowed.Goals as goal

pub row_of-requires-clause-slotted : goal.row_of-requires-clause-slotted
row_of-requires-clause-slotted c =
    own_slotted c.args.kernel.origins.now c.args.kernel.slotted.now (list_at c.args.lists.now c.args.kernel.begun) c.requires.slotted c.args.span c.within_span.result.now c.part-others.result.now c.within_span.ensures.rises c.within_span.ensures.exact c.part-others.ensures.rises
    c.part-others.ensures.exact

pub row_of-requires-clause-parts : goal.row_of-requires-clause-parts
row_of-requires-clause-parts c =
    subst (λ (l : List Item). IsRowOfParts l c.args.earleme (placed_all c.args.kernel.origins.now c.within_span.result.now) c.part-others.result.now) (sym c.rules.ensures)
    (parts_within c.args.dotted.now.rules c.args.earleme (placed_all c.args.kernel.origins.now c.args.kernel.slotted.now) (list_at c.args.lists.now c.args.kernel.begun) c.requires.row c.args.span (placed_all c.args.kernel.origins.now c.within_span.result.now) c.part-others.result.now
    (placed_within c.args.kernel.origins.now c.args.kernel.slotted.now (list_at c.args.lists.now c.args.kernel.begun) c.requires.slotted c.args.span c.within_span.result.now c.part-others.result.now c.within_span.ensures.rises c.within_span.ensures.exact c.part-others.ensures.rises
    c.part-others.ensures.exact))

pub returns : goal.returns
returns c = (
  placed_all c.args.kernel.origins.now c.within_span.result.now,
  c.part-others.result.now,
  placed_within c.args.kernel.origins.now c.args.kernel.slotted.now (list_at c.args.lists.now c.args.kernel.begun) c.requires.slotted c.args.span c.within_span.result.now c.part-others.result.now c.within_span.ensures.rises c.within_span.ensures.exact c.part-others.ensures.rises
      c.part-others.ensures.exact,
  c.row_of.ensures ∙ ap (λ (l : List Item). row_items l c.args.earleme (placed_all c.args.kernel.origins.now c.within_span.result.now) c.part-others.result.now) c.rules.ensures,
)
