use Rattle.leo_items.proofs.Adding.{tells_there}
use Rattle.forest_parts.proofs.Taking.{not_both, not_from}
use Rattle.forest_parts.proofs.needed.may_be_used.Goals as goal

pub returns-then-least-item : goal.returns-then-least-item
returns-then-least-item c =
    let tells = tells_there c.args.unasked.now.keys c.args.item c.contains.result c.contains.ensures in
    (λ t. (c.if-least-item.true, λ h. not_both c.contains.result t (tells.1 h)), λ (le, none). not_from c.contains.result (λ e. none (tells.0 e)))
