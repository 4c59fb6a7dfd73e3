use Rattle.std.proofs.Common.{rules}
use Rattle.std.proofs.lemmas.Result.{on_ok_weaker}
use Rattle.forest_parts.specs.Unasked.{IsOver, IsOverChosen}
use Rattle.forest_parts.proofs.Taking.{takes_none, takes_of}
use Rattle.forest_parts.proofs.unasked.put_chosen.Goals as goal

pub returns-then-is_outranked : goal.returns-then-is_outranked
returns-then-is_outranked c = takes_none c.args.recce.now (IsOverChosen c.args.w.now c.args.ranking c.args.recce.now c.args.end c.args.item) c.args.items.now.keys (λ x (chosen, over). chosen (c.is_outranked.ensures.0 c.if-is_outranked.true))

pub returns : goal.returns
returns c =
    on_ok_weaker c.put_over.result
    (λ t. takes_of c.args.recce.now (IsOver c.args.recce.now c.args.end c.args.item) (IsOverChosen c.args.w.now c.args.ranking c.args.recce.now c.args.end c.args.item) c.args.items.now.keys c.put_over.new.items.keys (λ x (chosen, over). over)
    (λ x over. ((λ out. (let is = c.is_outranked.ensures.1 out in absurd (search rules))), over)) t)
    c.put_over.ensures
