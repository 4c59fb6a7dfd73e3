use Rattle.std.proofs.Common.{arith, ◌≡◌, suc, ◌+◌, subst, add-one}
use Rattle.slot_analysis.specs.Steps.{unit_clause, HasMore, IsOfNext}
use Rattle.slot_analysis.proofs.More.{more_none, more_by, next_split}
use Rattle.slot_analysis.proofs.steps.push_next.Goals as goal

pub loop-x-init : goal.loop-x-init
loop-x-init c = more_none c.args.clauses.now (IsOfNext c.args.total c.args.from (suc c.args.from)) (λ d (k, le, lt, e). omega (arith, le, lt))

pub loop-x-preserved : goal.loop-x-preserved
loop-x-preserved c = more_by c.args.clauses.now c.loop-x.clauses c.push_unit.new.clauses (IsOfNext c.args.total c.args.from (suc c.loop-x.x)) (λ d. d ≡ unit_clause (c.args.total + suc c.loop-x.x) (c.args.total + c.loop-x.x)) (IsOfNext c.args.total c.args.from (suc (c.loop-x.x + 1)))
    (λ d. next_split c.args.total c.args.from c.loop-x.x d (omega arith)) c.loop-x.invariant
    (subst (λ n. HasMore c.loop-x.clauses c.push_unit.new.clauses (λ d. d ≡ unit_clause (c.args.total + n) (c.args.total + c.loop-x.x))) (add-one c.loop-x.x) c.in_ok-push_unit.ensures)

pub returns : goal.returns
returns c = subst (λ n. HasMore c.args.clauses.now c.loop-x.clauses (IsOfNext c.args.total c.args.from n)) (omega arith) c.loop-x.invariant
