use Rattle.std.proofs.Common.{◌≢◌, ℕ, ◌<◌}
use Rattle.forest_parts.specs.Parts.{part_at}
use Rattle.first_walk.specs.Place.{IsMatch}
use Rattle.first_walk.proofs.place.has_other_start.Given as goal

abbrev pub invariant-loop-j : goal.invariant-loop-j
invariant-loop-j l = record {
  low : l.k < l.j;
  none : (i : ℕ) → l.k < i → i < l.j → (part_at l.parts i).length ≢ (part_at l.parts l.k).length → ¬ IsMatch l.recce (part_at l.parts l.k).symbol l.item (part_at l.parts i);
}
