use Rattle.std.proofs.Common.{◌≡◌, ◌↔◌, ◌<◌, ℕ, length, Contains}
use Rattle.jagged.specs.Rows.{row_at}
use Rattle.horn_clauses.specs.Gathered.{HasFrom}
use Rattle.horn_clauses.proofs.gathered.rows_of.Given as goal

abbrev pub invariant-loop-x : goal.invariant-loop-x
invariant-loop-x l = (length l.rows ≡ l.x) × ((y : ℕ) → y < l.x → (n : ℕ) → Contains (row_at l.rows y) n ↔ HasFrom l.pairs y 0 n)
