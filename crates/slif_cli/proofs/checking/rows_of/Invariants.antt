use Rattle.std.proofs.Common.{map}
use Rattle.slif_cli.specs.Stops.{told_row}
use Rattle.slif_cli.proofs.Rows.{Collected}
use Rattle.slif_cli.proofs.checking.rows_of.Given as goal

abbrev pub invariant-loop-i : goal.invariant-loop-i
invariant-loop-i l = Collected l.prepared.g1 l.i l.seen.items (map told_row l.rows.items)
