use Rattle.std.proofs.Common.{◌≡◌, ℕ, length}
use Rattle.flat_rules.specs.Tables.{rows_of, row_at}
use Rattle.flat_rules.proofs.Rows.{rules_to}
use Rattle.flat_rules.proofs.lefts.rules_by_left.Given as goal

abbrev pub invariant-loop-i : goal.invariant-loop-i
invariant-loop-i l = (length l.rows.items ≡ length l.w.names) × ((s : ℕ) → row_at (rows_of l.rows.items) s ≡ rules_to l.w l.i s)
