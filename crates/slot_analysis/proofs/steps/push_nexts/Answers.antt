use Rattle.std.proofs.Common.{arith, ◌≡◌, ◌+◌, ◌<◌, length, slice_index, subst, sym, ap, add-one}
use Rattle.slot_analysis.specs.Slots.{end_of}
use Rattle.slot_analysis.specs.Steps.{HasMore, IsOfNext, IsOfNexts}
use Rattle.slot_analysis.proofs.More.{more_none, more_by, nexts_split}
use Rattle.slot_analysis.proofs.Rounds.{bases_rise}
use Rattle.slot_analysis.proofs.steps.push_nexts.Goals as goal

pub loop-s-init : goal.loop-s-init
loop-s-init c = more_none c.args.clauses.now (IsOfNexts c.args.bases.now c.args.total 0) (λ d (k, lt, e). omega (arith, lt))

pub push_next-requires-clause-order : goal.push_next-requires-clause-order
push_next-requires-clause-order c = subst (λ n. slice_index c.args.bases.now c.loop-s.s < slice_index c.args.bases.now n) (sym (add-one c.loop-s.s)) (c.requires.numbering.rising c.loop-s.s (omega (arith, c.symbol_count-s-end.ensures.count)))

pub push_next-requires-clause-small : goal.push_next-requires-clause-small
push_next-requires-clause-small c =
    let h = bases_rise c.args.w.now c.args.bases.now c.loop-s.s (length c.args.w.now.names) c.requires.numbering (omega (arith, c.symbol_count-s-end.ensures.count)) (omega arith) in
    let e = ap (slice_index c.args.bases.now) (add-one c.loop-s.s) in
    omega (arith, h, e, c.requires.total, c.requires.small)

pub loop-s-preserved : goal.loop-s-preserved
loop-s-preserved c = more_by c.args.clauses.now c.loop-s.clauses c.push_next.new.clauses (IsOfNexts c.args.bases.now c.args.total c.loop-s.s) (IsOfNext c.args.total (slice_index c.args.bases.now c.loop-s.s) (end_of c.args.bases.now c.loop-s.s)) (IsOfNexts c.args.bases.now c.args.total (c.loop-s.s + 1))
    (λ d. nexts_split c.args.bases.now c.args.total c.loop-s.s d) c.loop-s.invariant
    (subst (λ n. HasMore c.loop-s.clauses c.push_next.new.clauses (IsOfNext c.args.total (slice_index c.args.bases.now c.loop-s.s) (slice_index c.args.bases.now n))) (add-one c.loop-s.s) c.in_ok-push_next.ensures)

pub returns : goal.returns
returns c = subst (λ n. HasMore c.args.clauses.now c.loop-s.clauses (IsOfNexts c.args.bases.now c.args.total n)) (let z : c.loop-s.s ≡ length c.args.w.now.names = omega (arith, c.loop-s-test.false, c.loop-s.auto.s-end, c.symbol_count-s-end.ensures.count) in z) c.loop-s.invariant
