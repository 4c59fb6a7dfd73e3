use Rattle.std.proofs.Common.{arith, ◌≡◌, ◌+◌, subst}
use Rattle.slot_analysis.specs.Steps.{unit_clause, HasMore, IsOfUse}
use Rattle.slot_analysis.proofs.More.{more_none, more_by, uses_split}
use Rattle.slot_analysis.proofs.steps.push_uses.Goals as goal

pub loop-x-init : goal.loop-x-init
loop-x-init c = more_none c.args.clauses.now (IsOfUse c.args.total 0) (λ d (k, lt, e). omega (arith, lt))

pub loop-x-preserved : goal.loop-x-preserved
loop-x-preserved c = more_by c.args.clauses.now c.loop-x.clauses c.push_unit.new.clauses (IsOfUse c.args.total c.loop-x.x) (λ d. d ≡ unit_clause (c.args.total + c.loop-x.x) c.loop-x.x) (IsOfUse c.args.total (c.loop-x.x + 1))
    (λ d. uses_split c.args.total c.loop-x.x d) c.loop-x.invariant c.in_ok-push_unit.ensures

pub returns : goal.returns
returns c =
    let same : c.loop-x.x ≡ c.args.total = (let done = c.loop-x-test.false in omega arith) in
    subst (λ n. HasMore c.args.clauses.now c.loop-x.clauses (IsOfUse c.args.total n)) same c.loop-x.invariant
