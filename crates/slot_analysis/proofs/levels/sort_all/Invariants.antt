use Rattle.std.proofs.Common.{◌≡◌, ℕ, ◌<◌, length}
use Rattle.jagged.specs.Rows.{row_at}
use Rattle.slot_analysis.proofs.LevelRows.{IsSortedFrom}
use Rattle.slot_analysis.proofs.levels.sort_all.Given as goal

abbrev pub invariant-loop-s : goal.invariant-loop-s
invariant-loop-s l = (length l.sorted ≡ l.s) × ((j : ℕ) → j < l.s → IsSortedFrom l.rows j (row_at l.sorted j))
