use Rattle.std.proofs.Common.{◌-◌, sym, ◌∙◌, arith}
use Rattle.first_walk.proofs.JoinedOrder.{all_before, none_behind}
use Rattle.first_walk.proofs.joined.is_first.Goals as goal

pub returns-then-first-eq0 : goal.returns-then-first-eq0
returns-then-first-eq0 c _ = record {
  bound = omega arith;
  before = λ k j lt at. absurd (omega arith);
  behind = none_behind c.args.joined.now c.requires c.args.item c.args.first (sym c.is_before.ensures ∙ c.if-is_before.false);
}

pub returns-else-first-eq0 : goal.returns-else-first-eq0
returns-else-first-eq0 c t = record {
  bound = omega arith;
  before = λ k j lt at. all_before c.args.joined.now c.requires c.args.item (c.args.first - 1) (omega arith) (sym c.is_before-else-first-eq0.ensures ∙ t) k j (omega arith) at;
  behind = none_behind c.args.joined.now c.requires c.args.item c.args.first (sym c.is_before.ensures ∙ c.if-is_before.false);
}
