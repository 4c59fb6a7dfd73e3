use Rattle.std.proofs.Common.{◌≡◌, ℕ, ◌<◌, length, Contains}
use Rattle.jagged.specs.Rows.{row_at}
use Rattle.slot_analysis.proofs.levels.push_firsts.Given as goal

abbrev pub invariant-loop-s : goal.invariant-loop-s
invariant-loop-s l = (length l.rows ≡ length l.initial.rows) × ((j : ℕ) → j < l.s → Contains (row_at l.rows j) 0)
