use Rattle.horn_clauses.proofs.least.search_rows.Goals as goal

pub close-requires-clause-below : goal.close-requires-clause-below
close-requires-clause-below c = c.requires.below

pub close-requires-clause-rows : goal.close-requires-clause-rows
close-requires-clause-rows c = c.requires.rows
