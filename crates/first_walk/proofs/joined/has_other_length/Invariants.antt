use Rattle.std.proofs.Common.{◌≡◌, ℕ, ◌<◌, Some, slice_get}
use Rattle.forest_parts.specs.Parts.{part_at}
use Rattle.first_walk.specs.declared.joined.Joined.{Joined}
use Rattle.first_walk.proofs.joined.has_other_length.Given as goal

abbrev pub invariant-loop-k : goal.invariant-loop-k
invariant-loop-k l = (i : ℕ) (j : Joined) → i < l.k → slice_get l.joined i ≡ Some j → (part_at l.parts j.part).length ≡ l.length
