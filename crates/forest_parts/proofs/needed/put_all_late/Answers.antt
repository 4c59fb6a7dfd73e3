use Rattle.std.proofs.Common.{◌≡◌, ◌≤◌, Contains, get_or, refl, sym, subst}
use Rattle.std.proofs.lemmas.Option.{slice_get-get_or}
use Rattle.recognizer_model.specs.declared.Item.{Item}
use Rattle.forest_parts.proofs.Gathering.{no_item, first_none, first_more, first_all, gains_same}
use Rattle.forest_parts.proofs.needed.put_all_late.Goals as goal

pub loop-item-init : goal.loop-item-init
loop-item-init c = first_none (λ (item x : Item). (x ≡ item) × (c.args.least ≤ item.origin)) c.args.given.now c.args.items.now.items

pub loop-item-preserved : goal.loop-item-preserved
loop-item-preserved c =
    first_more (λ (item x : Item). (x ≡ item) × (c.args.least ≤ item.origin)) c.args.given.now c.loop-item.item-index c.args.items.now.items c.loop-item.items.items c.put_late.new.items.items (get_or c.args.given.now c.loop-item.item-index no_item) c.loop-item.invariant
    (slice_get-get_or c.args.given.now c.loop-item.item-index no_item c.loop-item-test.true) c.in_ok-put_late.ensures

pub returns : goal.returns
returns c =
    gains_same (λ x. (y : Item) × Contains c.args.given.now y × ((x ≡ y) × (c.args.least ≤ y.origin))) (λ x. Contains c.args.given.now x × (c.args.least ≤ x.origin)) c.args.items.now.items c.loop-item.items.items
    (first_all (λ (item x : Item). (x ≡ item) × (c.args.least ≤ item.origin)) c.args.given.now c.loop-item.item-index c.args.items.now.items c.loop-item.items.items c.loop-item.invariant c.loop-item-test.false)
    (λ x. (λ (y, h, (e, late)). subst (λ (z : Item). Contains c.args.given.now z × (c.args.least ≤ z.origin)) (sym e) (h, late), λ (h, late). (x, h, (refl, late))))
