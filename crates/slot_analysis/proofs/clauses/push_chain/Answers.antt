use Rattle.std.proofs.Common.{arith, subst}
use Rattle.slot_analysis.specs.Slots.{HasChain}
use Rattle.slot_analysis.proofs.Pushing.{chain_none, chain_first, chain_more}
use Rattle.slot_analysis.proofs.clauses.push_chain.Goals as goal

pub loop-next-init : goal.loop-next-init
loop-next-init c = chain_first c.args.clauses.now c.args.clauses.now c.args.from c.args.from (omega arith) (chain_none c.args.clauses.now c.args.from)

pub loop-next-preserved : goal.loop-next-preserved
loop-next-preserved c = chain_more c.args.clauses.now c.loop-next.clauses c.push_link.new.clauses c.args.from c.loop-next.next (omega arith) c.loop-next.invariant c.in_ok-push_link.ensures

pub returns : goal.returns
returns c = subst (λ n. HasChain c.args.clauses.now c.loop-next.clauses c.args.from n) (omega arith) c.loop-next.invariant
