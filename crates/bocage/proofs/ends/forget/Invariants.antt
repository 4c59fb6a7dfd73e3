use Rattle.std.proofs.Common.{◌≡◌, ◌≢◌, ℕ, Some, length, slice_get}
use Rattle.bocage.specs.declared.rows.CauseRow.{CauseRow}
use Rattle.bocage.proofs.ends.forget.Given as goal

abbrev pub invariant-loop-k : goal.invariant-loop-k
invariant-loop-k l = record {
  long : length l.causes.items ≡ l.k;
  none : (n : ℕ) (cause : CauseRow) → slice_get l.causes.items n ≢ Some (Some cause);
}
