use Rattle.dsl_build.proofs.Ranging.{built_ranges}
use Rattle.dsl_build.proofs.laws.built_is_in_range.Goals as goal

pub returns : goal.returns
returns c = built_ranges
