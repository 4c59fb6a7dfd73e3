use Rattle.std.proofs.Common.{subst}
use Rattle.dsl_build.specs.Ranges.{IsInRange}
use Rattle.dsl_build.proofs.Ranging.{built_ranges}
use Rattle.prepared_grammars.proofs.prepared.Prepared.known.Goals as goal

pub returns-clause-ranges : goal.returns-clause-ranges
returns-clause-ranges c = subst IsInRange c.self.view_is (built_ranges c.self.invariant.built.0 c.self.inside.built c.self.invariant.built.1)
