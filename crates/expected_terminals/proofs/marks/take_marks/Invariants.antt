use Rattle.std.proofs.Common.{◌≡◌, ◌<◌, ℕ, Some, length, slice_get}
use Rattle.expected_terminals.proofs.marks.take_marks.Given as goal

abbrev pub invariant-loop-t : goal.invariant-loop-t
invariant-loop-t l =
    (length l.marks.rows.items ≡ length l.initial.marks.rows.items) × (l.marks.listed ≡ l.initial.marks.listed) × ((t m : ℕ) → t < l.t → slice_get l.marks.rows.items t ≡ Some m → m ≡ 0)
