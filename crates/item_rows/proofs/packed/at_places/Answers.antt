use Rattle.std.proofs.Common.{◌≡◌, ◌∙◌, ◌-◌, sym, ap, subst, ℕ, List, take, drop, Some, Contains}
use Rattle.recognizer_model.specs.declared.Item.{Item}
use Rattle.recognizer_model.specs.Flat.{part_of}
use Rattle.recognizer_model.specs.Items.{after}
use Rattle.recognizer_model.specs.Counts.{IsListOf}
use Rattle.jagged.specs.Rows.{row_at as list_at}
use Rattle.kernels.specs.Slots.{placed_all}
use Rattle.item_rows.specs.Dotted.{row_items, IsRowOfParts}
use Rattle.item_rows.proofs.Joined.{parts_within, row_of_kind}
use Rattle.item_rows.proofs.Noting.{within_places}
use Rattle.item_rows.proofs.packed.at_places.Goals as goal

pub row_of-requires-clause-parts : goal.row_of-requires-clause-parts
row_of-requires-clause-parts c =
    let (symbol, are) = c.requires.places in
    let list = list_at c.args.lists.now c.args.kernel.begun in
    let is_others = c.between-others.ensures ∙ ap (λ (l : List ℕ). take (c.args.places.begun_end - c.args.places.begun_start) (drop c.args.places.begun_start l)) c.list.ensures in
    subst (λ (l : List Item). IsRowOfParts l c.args.earleme (placed_all c.args.kernel.origins.now c.between.result.now) c.between-others.result.now) (sym c.rules.ensures)
    (parts_within c.args.dotted.now.rules c.args.earleme (placed_all c.args.kernel.origins.now c.args.kernel.slotted.now) list c.requires.row are.span (placed_all c.args.kernel.origins.now c.between.result.now) c.between-others.result.now
    (within_places c.args.kernel.slotted.now list c.between.result.now c.between-others.result.now c.requires.slotted.rises c.requires.row.second.rises are.span c.args.places are.own are.others c.between.ensures is_others c.args.kernel.origins.now c.requires.slotted))

pub returns : goal.returns
returns c symbol are =
    let list = list_at c.args.lists.now c.args.kernel.begun in
    let packed = placed_all c.args.kernel.origins.now c.args.kernel.slotted.now in
    let own = placed_all c.args.kernel.origins.now c.between.result.now in
    let is_others = c.between-others.ensures ∙ ap (λ (l : List ℕ). take (c.args.places.begun_end - c.args.places.begun_start) (drop c.args.places.begun_start l)) c.list.ensures in
    subst (λ (l : List Item). IsListOf (λ item. Contains (row_items c.args.dotted.now.rules c.args.earleme packed list) item × (after c.args.dotted.now.flat item ≡ Some symbol)) l)
    (sym (c.row_of.ensures ∙ ap (λ (l : List Item). row_items l c.args.earleme own c.between-others.result.now) c.rules.ensures))
    (row_of_kind c.args.dotted.now.rules c.args.earleme packed list c.requires.row c.known.ensures.differ (λ rule dot. part_of c.args.dotted.now.flat rule dot ≡ Some symbol) are.span are.is own c.between-others.result.now
    (within_places c.args.kernel.slotted.now list c.between.result.now c.between-others.result.now c.requires.slotted.rises c.requires.row.second.rises are.span c.args.places are.own are.others c.between.ensures is_others c.args.kernel.origins.now c.requires.slotted))
