use Rattle.std.proofs.Common.{sym, subst, arith, ◌+◌, ◌↔◌, take, Contains}
use Rattle.std.proofs.lemmas.List.{take_all}
use Rattle.leo_items.specs.Hidden.{IsFrom}
use Rattle.leo_items.proofs.Hiding.{AreFrom, from_none, from_add, from_skip}
use Rattle.leo_items.proofs.hidden.put_from.Goals.{then-from-item+in_ok-insert, else-from-item}
use Rattle.leo_items.proofs.hidden.put_from.Goals as goal

pub loop-k-init : goal.loop-k-init
loop-k-init c = from_none c.args.from c.args.set.now c.requires

pub loop-k-preserved : goal.loop-k-preserved
loop-k-preserved c = elim c.if-from-item.branch [
  | then-from-item+in_ok-insert w ↦
      subst (AreFrom c.args.from (take (c.loop-k.k + 1) c.args.items.now)) (sym w.set-is)
      (from_add c.args.from c.args.items.now c.loop-k.k c.at-item.result c.at-item.ensures c.loop-k.set w.insert.new.self c.loop-k.invariant w.if-from-item.true
      w.in_ok-insert.ensures.ok)
  | else-from-item w ↦
      subst (AreFrom c.args.from (take (c.loop-k.k + 1) c.args.items.now)) (sym w.set-is)
      (from_skip c.args.from c.args.items.now c.loop-k.k c.at-item.result c.at-item.ensures c.loop-k.set c.loop-k.invariant
      (λ le. let lt = w.if-from-item.false in omega arith))
]

pub returns : goal.returns
returns c item =
    subst (λ l. Contains c.loop-k.set item ↔ IsFrom l c.args.from item) (take_all c.loop-k.k c.args.items.now (let n = c.len-k-end.ensures in let f = c.loop-k-test.false in omega arith)) (c.loop-k.invariant item)
