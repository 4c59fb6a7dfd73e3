use Rattle.std.proofs.Common.{arith, ◌≡◌, ◌+◌, slice_index, subst, length}
use Rattle.slot_analysis.specs.Slots.{fact_clause}
use Rattle.slot_analysis.specs.Steps.{HasMore, IsOfStart}
use Rattle.slot_analysis.proofs.More.{more_none, more_by, starts_split}
use Rattle.slot_analysis.proofs.steps.push_starts.Goals as goal

pub loop-k-init : goal.loop-k-init
loop-k-init c = more_none c.args.clauses.now (IsOfStart c.args.w.now c.args.bases.now 0) (λ d (k, lt, e). omega (arith, lt))

pub loop-k-preserved : goal.loop-k-preserved
loop-k-preserved c = more_by c.args.clauses.now c.loop-k.clauses c.push_fact.new.clauses (IsOfStart c.args.w.now c.args.bases.now c.loop-k.k) (λ d. d ≡ fact_clause (slice_index c.args.bases.now (slice_index c.args.w.now.starts c.loop-k.k))) (IsOfStart c.args.w.now c.args.bases.now (c.loop-k.k + 1))
    (λ d. starts_split c.args.w.now c.args.bases.now c.loop-k.k d) c.loop-k.invariant
    (subst (λ x. HasMore c.loop-k.clauses c.push_fact.new.clauses (λ d. d ≡ fact_clause x)) c.start_number-x.ensures c.in_ok-push_fact.ensures)

pub returns : goal.returns
returns c =
    let same : c.loop-k.k ≡ length c.args.w.now.starts = (let done = c.loop-k-test.false in let count = c.start_count-k-end.ensures.count in omega arith) in
    subst (λ n. HasMore c.args.clauses.now c.loop-k.clauses (IsOfStart c.args.w.now c.args.bases.now n)) same c.loop-k.invariant
