use Rattle.std.proofs.Common.{◌≡◌, ℕ, [], Some, slice_get}
use Rattle.forest_parts.specs.declared.groups.Group.{Group}
use Rattle.forest_parts.proofs.Gathering.{Gains, ByBelow}
use Rattle.bocage.specs.declared.joins.Join.{Join}
use Rattle.bocage.specs.Joins.{IsJoinOf}
use Rattle.bocage.proofs.joins.list_joins.Given as goal

abbrev pub invariant-loop-k : goal.invariant-loop-k
invariant-loop-k l = Gains (ByBelow (λ (k : ℕ) (j : Join). (g : Group) × (slice_get l.groups k ≡ Some g) × (j.group ≡ k) × IsJoinOf l.recce l.least g j) l.k) [] l.joins.items
