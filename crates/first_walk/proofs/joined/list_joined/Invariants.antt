use Rattle.std.proofs.Common.{◌≡◌, ℕ, ◌<◌, length, []}
use Rattle.forest_parts.specs.Parts.{part_at}
use Rattle.forest_parts.proofs.Gathering.{Gains, ByBelow}
use Rattle.first_walk.specs.declared.joined.Joined.{Joined}
use Rattle.first_walk.specs.Joined.{IsJoinedTo}
use Rattle.first_walk.proofs.joined.list_joined.Given as goal

abbrev pub invariant-loop-k : goal.invariant-loop-k
invariant-loop-k l = Gains (ByBelow (λ (k : ℕ) (j : Joined). (k < length l.parts) × (j.part ≡ k) × IsJoinedTo l.recce (part_at l.parts k) j) l.k) [] l.joined.items
