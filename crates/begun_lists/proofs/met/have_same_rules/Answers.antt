use Rattle.begun_lists.proofs.Meeting.{none_same, one_same, all_same}
use Rattle.begun_lists.proofs.met.have_same_rules.Goals as goal

pub loop-k-init : goal.loop-k-init
loop-k-init c = none_same c.args.items.now c.args.others.now

pub loop-k-preserved : goal.loop-k-preserved
loop-k-preserved c =
    let both = c.is_same_rule.ensures c.if-not-is_same_rule.false in
    one_same c.args.items.now c.args.others.now c.loop-k.k c.loop-k.invariant both.0 both.1

pub returns : goal.returns
returns c = λ _. all_same c.args.items.now c.args.others.now c.loop-k.k c.if-items-others.false c.loop-k-test.false c.loop-k.invariant
