use Rattle.std.proofs.Common.{inl, inr, refl, arith, ⊎_elim}
use Rattle.threads.proofs.Closing.{rules_none, rules_more, rules_all}
use Rattle.threads.proofs.close.list_rules.Goals as goal

pub loop-rule-init : goal.loop-rule-init
loop-rule-init c = (rules_none c.args.next.now.items c.args.first, inr refl)

pub loop-rule-preserved : goal.loop-rule-preserved
loop-rule-preserved c = (
  rules_more c.args.next.now.items c.args.first c.loop-rule.next.items c.push.new.self.items c.loop-rule.rule c.loop-rule.invariant.0 (omega arith) c.in_ok-push.ensures.items,
  inl (omega arith),
)

pub returns : goal.returns
returns c =
    rules_all c.args.next.now.items c.args.first c.loop-rule.next.items c.loop-rule.rule c.args.end c.loop-rule.invariant.0 (omega arith)
    (⊎_elim (λ l. inl (omega arith)) (λ e. inr (c.loop-rule-test.false, e)) c.loop-rule.invariant.1)
