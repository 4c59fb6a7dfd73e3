use Rattle.std.proofs.Common.{◌∷◌, [], ◌∙◌, ap, List, length, length-append, arith, ◌≡◌, subst}
use Rattle.item_rows.specs.Dotted.{AreListed}
use Rattle.item_rows.proofs.Listed.{listed_more}
use Rattle.item_rows.proofs.dotted.list_all.Goals as goal

pub loop-rule-preserved : goal.loop-rule-preserved
loop-rule-preserved c = record {
  listed = listed_more c.args.flat.now c.loop-rule.listed.items c.loop-rule.firsts.items c.loop-rule.rule c.loop-rule.invariant.listed c.loop-rule.invariant.size c.list_dots.new.listed.items c.in_ok-list_dots.ensures c.in_ok-first.first
      (c.in_ok-first.ensures.ok ∙ ap (λ (l : List _). length l) c.as_slice.ensures.value) c.push.new.self.items c.in_ok-push.ensures.items;
  size = let s = c.loop-rule.invariant.size in let p = ap length c.in_ok-push.ensures.items in let l = length-append c.loop-rule.firsts.items (c.in_ok-first.first ∷ []) in omega arith;
}

pub returns : goal.returns
returns c =
    let same : c.loop-rule.rule ≡ length c.args.flat.now.rules = (let done = c.loop-rule-test.false in let count = c.rule_count-rule-end.ensures in omega arith) in
    subst (AreListed c.args.flat.now c.loop-rule.listed.items c.loop-rule.firsts.items) same c.loop-rule.invariant.listed
