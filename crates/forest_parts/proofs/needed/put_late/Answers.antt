use Rattle.std.proofs.Common.{◌≡◌, ◌≤◌, arith}
use Rattle.recognizer_model.specs.declared.Item.{Item}
use Rattle.forest_parts.proofs.Gathering.{gains_none, gains_push}
use Rattle.forest_parts.proofs.needed.put_late.Goals as goal

pub returns-in_ok-push : goal.returns-in_ok-push
returns-in_ok-push c =
    gains_push (λ (x : Item). (x ≡ c.args.item) × (c.args.least ≤ c.args.item.origin)) c.args.items.now.items c.push.new.self.items c.args.item c.in_ok-push.ensures.items (λ x. (λ (e, late). e, λ e. (e, c.if-least-item.true)))

pub returns-else-least-item : goal.returns-else-least-item
returns-else-least-item c = gains_none (λ (x : Item). (x ≡ c.args.item) × (c.args.least ≤ c.args.item.origin)) c.args.items.now.items (λ x (e, late). (let lt = c.if-least-item.false in absurd (omega arith)))
