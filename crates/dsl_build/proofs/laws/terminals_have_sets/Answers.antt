use Rattle.dsl_build.proofs.Terminals.{terminals_are_sets}
use Rattle.dsl_build.proofs.laws.terminals_have_sets.Goals as goal

pub returns : goal.returns
returns c = terminals_are_sets
