use Rattle.std.proofs.Common.{take, map}
use Rattle.std.specs.Prelude.{IsFalse}
use Rattle.language_model.specs.Building.{LexemeRow}
use Rattle.dsl_build.specs.Tables.{row_of}
use Rattle.prepared_grammars.specs.Gathered.{Gathers}
use Rattle.prepared_grammars.proofs.lookups.list_always.Given as goal

abbrev pub invariant-loop-row : goal.invariant-loop-row
invariant-loop-row l = Gathers (λ (l : LexemeRow). IsFalse l.latm) (λ (l : LexemeRow). l.start) (take l.row-index (map row_of l.rows)) l.always.items
