use Rattle.std.proofs.Common.{ℕ, ◌<◌, ◌≤◌, Contains, slice_index}
use Rattle.horn_clauses.proofs.least.open_place.Given as goal

abbrev pub invariant-loop-place : goal.invariant-loop-place
invariant-loop-place l = (m : ℕ) → l.from ≤ m → m < l.place → Contains l.found (slice_index l.body m)
