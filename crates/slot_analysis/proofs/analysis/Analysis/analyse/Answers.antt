use Rattle.slot_analysis.proofs.analysis.Analysis.analyse.Goals as goal

pub invariant_of-result : goal.invariant_of-result
invariant_of-result c = record {
  written = c.known.ensures;
  levels = c.in_ok-levels.ensures;
  tables = c.in_ok-tables.ensures.tables;
}
