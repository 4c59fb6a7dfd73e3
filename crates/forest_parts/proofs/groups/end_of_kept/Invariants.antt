use Rattle.std.proofs.Common.{ℕ, ◌<◌, ◌≤◌}
use Rattle.forest_parts.specs.Parts.{part_at}
use Rattle.forest_parts.specs.Groups.{IsKept}
use Rattle.forest_parts.proofs.groups.end_of_kept.Given as goal

abbrev pub invariant-loop-end : goal.invariant-loop-end
invariant-loop-end l = (i : ℕ) → l.k ≤ i → i < l.end → IsKept l.ranking (part_at l.parts i) (part_at l.parts l.k)
