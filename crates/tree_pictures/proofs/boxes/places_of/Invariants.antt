use Rattle.std.proofs.Common.{◌≡◌, ◌≤◌, ◌++◌, drop}
use Rattle.tree_pictures.specs.Boxes.{places_from}
use Rattle.tree_pictures.proofs.boxes.places_of.Given as goal

abbrev pub invariant-loop-i : goal.invariant-loop-i
invariant-loop-i l = (l.boxes ≤ l.i) × (l.places.items ++ places_from l.counts l.i l.boxes (drop l.i l.nodes) ≡ places_from l.counts 0 0 l.nodes)
