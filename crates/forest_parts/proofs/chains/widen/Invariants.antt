use Rattle.std.proofs.Common.{◌≡◌, ◌≤◌, ℕ, length, slice_index_or}
use Rattle.forest_parts.proofs.chains.widen.Given as goal

abbrev pub invariant-loop-k : goal.invariant-loop-k
invariant-loop-k l = record {
  long : l.k ≤ length l.heads.items;
  same : (e : ℕ) → slice_index_or l.heads.items e 0 ≡ slice_index_or l.initial.heads.items e 0;
}
