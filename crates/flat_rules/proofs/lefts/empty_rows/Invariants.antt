use Rattle.std.proofs.Common.{◌≡◌, ℕ, [], length}
use Rattle.flat_rules.specs.Tables.{rows_of, row_at}
use Rattle.flat_rules.proofs.lefts.empty_rows.Given as goal

abbrev pub invariant-loop-row : goal.invariant-loop-row
invariant-loop-row l = (length l.rows.items ≡ l._row) × ((s : ℕ) → row_at (rows_of l.rows.items) s ≡ [])
