use Rattle.std.proofs.Common.{◌≡◌, ℕ, ◌<◌, ◌≤◌, ◌+◌, ◌-◌, Some, Contains, length, slice_get}
use Rattle.forest_parts.specs.declared.groups.Group.{Group}
use Rattle.forest_parts.specs.Parts.{part_at}
use Rattle.forest_parts.specs.Groups.{IsGroup}
use Rattle.forest_parts.proofs.groups.list_groups.Given as goal

abbrev pub invariant-loop-k : goal.invariant-loop-k
invariant-loop-k l = record {
  within : l.k ≤ length l.parts;
  are : (g : Group) → Contains l.groups.items g → IsGroup l.ranking l.end l.parts g;
  all : (i : ℕ) → i < l.k → (n : ℕ) × (g : Group) × (slice_get l.groups.items n ≡ Some g) × (g.symbol ≡ (part_at l.parts i).symbol) × (g.start + (part_at l.parts i).length ≡ l.end);
  order : (i j : ℕ) (g h : Group) → i < j → slice_get l.groups.items i ≡ Some g → slice_get l.groups.items j ≡ Some h → g.symbol ≡ h.symbol → h.start < g.start;
  longer : (g : Group) (j : ℕ) → Contains l.groups.items g → l.k ≤ j → j < length l.parts → g.symbol ≡ (part_at l.parts j).symbol → l.end < g.start + (part_at l.parts j).length;
}

abbrev pub decreases-loop-k : goal.decreases-loop-k
decreases-loop-k l = length l.parts - l.k
