use Rattle.std.proofs.Common.{◌≡◌, sym, subst, List, Some, Contains}
use Rattle.recognizer_model.specs.declared.Item.{Item}
use Rattle.recognizer_model.specs.Flat.{part_of}
use Rattle.recognizer_model.specs.Items.{after}
use Rattle.recognizer_model.specs.Counts.{IsListOf}
use Rattle.jagged.specs.Rows.{row_at as list_at}
use Rattle.item_rows.specs.Dotted.{row_items}
use Rattle.kernels.specs.Slots.{placed_all}
use Rattle.item_rows.proofs.Joined.{row_of_kind}
use Rattle.item_rows.proofs.packed.waiting.Goals as goal

pub returns : goal.returns
returns c =
    let (own, others, within, is) = c.narrowed.ensures in
    subst (λ (l : List Item). IsListOf (λ item. Contains (row_items c.args.dotted.now.rules c.args.earleme (placed_all c.args.kernel.origins.now c.args.kernel.slotted.now) (list_at c.args.lists.now c.args.kernel.begun)) item × (after c.args.dotted.now.flat item ≡ Some c.args.symbol)) l) (sym is)
    (row_of_kind c.args.dotted.now.rules c.args.earleme (placed_all c.args.kernel.origins.now c.args.kernel.slotted.now) (list_at c.args.lists.now c.args.kernel.begun) c.requires.row c.known.ensures.differ (λ rule dot. part_of c.args.dotted.now.flat rule dot ≡ Some c.args.symbol) c.span.result c.span.ensures own others within)
