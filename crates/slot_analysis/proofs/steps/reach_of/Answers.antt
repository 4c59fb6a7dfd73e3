use Rattle.std.proofs.Common.{◌+◌, sym, ap, subst, slice_index, Contains, ◌↔◌}
use Rattle.horn_clauses.specs.Least.{Clause, AreBelow}
use Rattle.slot_analysis.specs.Steps.{IsStep}
use Rattle.slot_analysis.proofs.Reaching.{below, reached}
use Rattle.slot_analysis.proofs.steps.reach_of.Goals as goal

pub least_set-requires : goal.least_set-requires
least_set-requires c =
    let t = ap (slice_index c.args.bases.now) c.symbol_count.ensures.count in
    let steps = subst (λ n. (d : Clause) → Contains c.in_ok-clauses.clauses d ↔ IsStep c.args.w.now c.args.bases.now n d) t c.in_ok-clauses.ensures in
    subst (λ n. AreBelow (n + n) c.in_ok-clauses.clauses) (sym t)
    (below c.args.w.now c.args.bases.now c.in_ok-clauses.clauses c.symbol_count.ensures.sound c.requires.numbering steps)

pub returns-clause-reach : goal.returns-clause-reach
returns-clause-reach c =
    let t = ap (slice_index c.args.bases.now) c.symbol_count.ensures.count in
    let steps = subst (λ n. (d : Clause) → Contains c.in_ok-clauses.clauses d ↔ IsStep c.args.w.now c.args.bases.now n d) t c.in_ok-clauses.ensures in
    reached c.args.w.now c.args.bases.now c.in_ok-clauses.clauses c.symbol_count.ensures.sound c.requires.numbering steps c.in_ok-found.found c.in_ok-found.ensures
