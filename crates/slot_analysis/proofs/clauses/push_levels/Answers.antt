use Rattle.std.proofs.Common.{arith, sym, subst, slice_index, add-one, ◌<◌}
use Rattle.slot_analysis.specs.Slots.{HasChain}
use Rattle.slot_analysis.proofs.Pushing.{levels_none, levels_more}
use Rattle.slot_analysis.proofs.clauses.push_levels.Goals as goal

pub loop-s-init : goal.loop-s-init
loop-s-init c = levels_none c.args.bases.now c.args.clauses.now

pub push_chain-requires : goal.push_chain-requires
push_chain-requires c = subst (λ n. slice_index c.args.bases.now c.loop-s.s < slice_index c.args.bases.now n) (sym (add-one c.loop-s.s)) (c.requires.rising c.loop-s.s (omega (arith, c.symbol_count-s-end.ensures.count)))

pub loop-s-preserved : goal.loop-s-preserved
loop-s-preserved c = levels_more c.args.bases.now c.args.clauses.now c.loop-s.clauses c.push_chain.new.clauses c.loop-s.s c.loop-s.invariant
    (subst (λ n. HasChain c.loop-s.clauses c.push_chain.new.clauses (slice_index c.args.bases.now c.loop-s.s) (slice_index c.args.bases.now n)) (add-one c.loop-s.s) c.in_ok-push_chain.ensures)
