use Rattle.std.proofs.Common.{arith, subst}
use Rattle.slot_analysis.specs.Slots.{HasFacts}
use Rattle.slot_analysis.proofs.Pushing.{facts_none, facts_more}
use Rattle.slot_analysis.proofs.clauses.push_facts.Goals as goal

pub loop-x-init : goal.loop-x-init
loop-x-init c = facts_none c.args.clauses.now c.args.from

pub loop-x-preserved : goal.loop-x-preserved
loop-x-preserved c = facts_more c.args.clauses.now c.loop-x.clauses c.push.new.self c.args.from c.loop-x.x (omega arith) c.loop-x.invariant c.in_ok-push.ensures.ok

pub returns : goal.returns
returns c = subst (λ n. HasFacts c.args.clauses.now c.loop-x.clauses c.args.from n) (omega arith) c.loop-x.invariant
