use Rattle.std.proofs.Common.{◌∙◌, sym}
use Rattle.leo_items.proofs.Single.{only_item, step_is}
use Rattle.leo_items.proofs.leo_of.Goals as goal

pub returns : goal.returns
returns c =
    step_is c.args.flat.now c.args.waiting.now c.at.result c.step_of.result (only_item c.args.waiting.now c.at.result (sym c.len.ensures ∙ c.if-len-ne1.false) c.at.ensures) c.step_of.ensures.some c.step_of.ensures.none
