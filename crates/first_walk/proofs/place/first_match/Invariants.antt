use Rattle.std.proofs.Common.{ℕ, ◌≤◌, ◌<◌}
use Rattle.forest_parts.specs.Parts.{part_at}
use Rattle.first_walk.specs.Place.{IsMatch}
use Rattle.first_walk.proofs.place.first_match.Given as goal

abbrev pub invariant-loop-k : goal.invariant-loop-k
invariant-loop-k l = record {
  low : l.from ≤ l.k;
  none : (j : ℕ) → j < l.k → ¬ IsMatch l.recce l.symbol l.item (part_at l.parts j);
}
