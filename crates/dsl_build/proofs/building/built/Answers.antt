use Rattle.std.proofs.Common.{map}
use Rattle.dsl_statement.specs.Statements.{statement_of}
use Rattle.dsl_build.proofs.building.built.Goals as goal

pub built_by-built-requires-clause-texts : goal.built_by-built-requires-clause-texts
built_by-built-requires-clause-texts c = c.in_ok-texts.ensures (map statement_of c.args.statements.now) c.requires.uses
