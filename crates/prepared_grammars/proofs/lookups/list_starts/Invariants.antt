use Rattle.std.proofs.Common.{◌≡◌, length, take, map}
use Rattle.dsl_build.specs.Tables.{row_of}
use Rattle.prepared_grammars.specs.Lookups.{AreStarts}
use Rattle.prepared_grammars.proofs.lookups.list_starts.Given as goal

abbrev pub invariant-loop-row : goal.invariant-loop-row
invariant-loop-row l = AreStarts (take l.row-index (map row_of l.rows)) l.starts.items × (length l.starts.items ≡ l.count)
