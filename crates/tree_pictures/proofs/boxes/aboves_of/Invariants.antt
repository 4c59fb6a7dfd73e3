use Rattle.std.proofs.Common.{◌≡◌, ◌++◌, drop}
use Rattle.tree_pictures.specs.Boxes.{aboves_from}
use Rattle.tree_pictures.proofs.boxes.aboves_of.Given as goal

abbrev pub invariant-loop-i : goal.invariant-loop-i
invariant-loop-i l = l.aboves.items ++ aboves_from l.counts l.places l.i (drop l.i l.nodes) ≡ aboves_from l.counts l.places 0 l.nodes
