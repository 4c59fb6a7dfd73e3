use Rattle.std.proofs.Common.{ℕ, ◌<◌, ◌≤◌}
use Rattle.forest_parts.specs.Parts.{part_at}
use Rattle.forest_parts.specs.Groups.{IsSameSpan}
use Rattle.forest_parts.proofs.groups.end_of_span.Given as goal

abbrev pub invariant-loop-past : goal.invariant-loop-past
invariant-loop-past l = (i : ℕ) → l.k ≤ i → i < l.past → IsSameSpan (part_at l.parts i) (part_at l.parts l.k)
