use Rattle.std.proofs.Common.{ℕ, ◌≤◌, length}
use Rattle.shared_lists.specs.Placed.{HasPlaces}
use Rattle.shared_lists.specs.declared.places.Places.{Places}
use Rattle.shared_lists.proofs.places.Noted.put.Given as goal

abbrev pub invariant-loop : goal.invariant-loop
invariant-loop l = (l.counter ≤ length l.self.blocks.items) × ((k x : ℕ) (p : Places) → HasPlaces l.self.blocks.items k x p → HasPlaces l.fn.self.blocks.items k x p)
