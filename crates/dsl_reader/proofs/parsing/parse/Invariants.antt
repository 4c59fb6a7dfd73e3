use Rattle.std.proofs.Common.{map}
use Rattle.dsl_statement.specs.Statements.{statement_of as statement_seen}
use Rattle.dsl_reader.proofs.CuttingLemmas.{IsRead}
use Rattle.dsl_reader.proofs.parsing.parse.Given as goal

abbrev pub invariant-loop-at : goal.invariant-loop-at
invariant-loop-at l = IsRead l.whole (map statement_seen l.statements.items) l.from l.at
