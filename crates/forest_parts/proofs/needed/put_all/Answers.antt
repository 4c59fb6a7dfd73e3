use Rattle.std.proofs.Common.{◌≡◌, Contains, get_or, refl, sym, subst}
use Rattle.std.proofs.lemmas.Option.{slice_get-get_or}
use Rattle.recognizer_model.specs.declared.Item.{Item}
use Rattle.leo_items.proofs.Adding.{adds_key}
use Rattle.forest_parts.proofs.Gathering.{no_item, first_none, first_more, first_all, gains_same}
use Rattle.forest_parts.proofs.Rest.{gains_added}
use Rattle.forest_parts.proofs.needed.put_all.Goals as goal

pub loop-item-init : goal.loop-item-init
loop-item-init c = first_none (λ (item x : Item). x ≡ item) c.args.items.now c.args.set.now.keys

pub loop-item-preserved : goal.loop-item-preserved
loop-item-preserved c =
    first_more (λ (item x : Item). x ≡ item) c.args.items.now c.loop-item.item-index c.args.set.now.keys c.loop-item.set.keys c.insert.new.self.keys (get_or c.args.items.now c.loop-item.item-index no_item) c.loop-item.invariant
    (slice_get-get_or c.args.items.now c.loop-item.item-index no_item c.loop-item-test.true) (gains_added c.loop-item.set.keys c.insert.new.self.keys (get_or c.args.items.now c.loop-item.item-index no_item) (adds_key c.loop-item.set.keys c.insert.new.self.keys _ c.in_ok-insert.ensures.keys))

pub returns : goal.returns
returns c =
    gains_same (λ x. (y : Item) × Contains c.args.items.now y × (x ≡ y)) (Contains c.args.items.now) c.args.set.now.keys c.loop-item.set.keys
    (first_all (λ (item x : Item). x ≡ item) c.args.items.now c.loop-item.item-index c.args.set.now.keys c.loop-item.set.keys c.loop-item.invariant c.loop-item-test.false)
    (λ x. (λ (y, h, e). subst (Contains c.args.items.now) (sym e) h, λ h. (x, h, refl)))
