use Rattle.std.proofs.Common.{inl, inr, refl, arith, ⊎_elim}
use Rattle.begun_lists.proofs.Listing.{predicted_none, predicted_more, predicted_all, counted_none, counted_more, counted_all}
use Rattle.begun_lists.proofs.begun.list_predicted.Goals as goal

pub loop-rule-init : goal.loop-rule-init
loop-rule-init c = record { listed = predicted_none c.args.next.now.items c.args.first 0; links = counted_none c.args.next.now.items c.args.first 0; within = inr refl }

pub loop-rule-preserved : goal.loop-rule-preserved
loop-rule-preserved c = record {
  listed = predicted_more c.args.next.now.items c.args.first 0 c.loop-rule.next.items c.push.new.self.items c.loop-rule.rule c.loop-rule.invariant.listed (omega arith) c.in_ok-push.ensures.items;
  links = counted_more c.args.next.now.items c.args.first 0 c.loop-rule.next.items c.push.new.self.items c.loop-rule.rule c.loop-rule.invariant.links (omega arith) c.in_ok-push.ensures.items;
  within = inl (omega arith);
}

pub returns-clause-listed : goal.returns-clause-listed
returns-clause-listed c =
    predicted_all c.args.next.now.items c.args.first 0 c.loop-rule.next.items c.loop-rule.rule c.args.end c.loop-rule.invariant.listed (omega arith)
    (⊎_elim (λ l. inl (omega arith)) (λ e. inr (c.loop-rule-test.false, e)) c.loop-rule.invariant.within)

pub returns-clause-links : goal.returns-clause-links
returns-clause-links c =
    counted_all c.args.next.now.items c.args.first 0 c.loop-rule.next.items c.loop-rule.rule c.args.end c.loop-rule.invariant.links
    (⊎_elim (λ l. inl (omega arith)) (λ e. inr (c.loop-rule-test.false, e)) c.loop-rule.invariant.within)
