use Rattle.std.proofs.Common.{arith, ◌≡◌, ◌+◌}
use Rattle.grammar_check.specs.Settled.{use_clause, IsOfUses}
use Rattle.slot_analysis.proofs.More.{more_none, more_by, more_pushed}
use Rattle.grammar_check.proofs.Settling.{uses_split}
use Rattle.grammar_check.proofs.cycles.push_ties.Goals as goal

pub loop-y-init : goal.loop-y-init
loop-y-init c = more_none c.args.clauses.now (IsOfUses c.args.floors.now c.args.total 0) (λ d (y, lt, e). omega (arith, lt))

pub loop-y-preserved : goal.loop-y-preserved
loop-y-preserved c =
    more_by c.args.clauses.now c.loop-y.clauses c.push_tie.new.clauses (IsOfUses c.args.floors.now c.args.total c.loop-y.y) (λ d. d ≡ use_clause c.args.floors.now c.args.total c.loop-y.y) (IsOfUses c.args.floors.now c.args.total (c.loop-y.y + 1))
    (uses_split c.args.floors.now c.args.total c.loop-y.y) c.loop-y.invariant
    (more_pushed c.loop-y.clauses c.push_tie.new.clauses (use_clause c.args.floors.now c.args.total c.loop-y.y) c.in_ok-push_tie.ensures)
