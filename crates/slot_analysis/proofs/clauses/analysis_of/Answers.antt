use Rattle.std.proofs.Common.{sym, subst, slice_index}
use Rattle.horn_clauses.specs.Least.{AreBelow}
use Rattle.slot_analysis.proofs.Collected.{below, analysed}
use Rattle.slot_analysis.proofs.clauses.analysis_of.Goals as goal

pub least_set-requires : goal.least_set-requires
least_set-requires c = subst (λ n. AreBelow (slice_index c.args.bases.now n) c.in_ok-clauses.clauses) (sym c.symbol_count.ensures.count)
    (below c.args.separators c.args.w.now c.args.bases.now c.in_ok-clauses.clauses c.symbol_count.ensures.sound c.requires.numbering c.in_ok-clauses.ensures)

pub returns : goal.returns
returns c = analysed c.args.separators c.args.w.now c.args.bases.now c.in_ok-clauses.clauses c.symbol_count.ensures.sound c.requires.numbering c.in_ok-clauses.ensures c.in_ok-found.found c.in_ok-found.ensures
