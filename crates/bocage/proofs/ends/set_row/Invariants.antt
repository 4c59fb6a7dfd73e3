use Rattle.std.proofs.Common.{◌≡◌, ℕ, List, Some, map, length, slice_get}
use Rattle.bocage.specs.declared.rows.AlternativeRow.{AlternativeRow}
use Rattle.bocage.proofs.ends.set_row.Given as goal

abbrev pub invariant-loop-k : goal.invariant-loop-k
invariant-loop-k l = record {
  long : l.k ≡ length l.table.items;
  same : (m : ℕ) (held : List AlternativeRow) → slice_get (map (λ r. r.now) l.initial.table.items) m ≡ Some held → slice_get (map (λ r. r.now) l.table.items) m ≡ Some held;
}
