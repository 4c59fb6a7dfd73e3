use Rattle.std.proofs.Common.{◌≡◌, ◌++◌, drop, map, string_bytes}
use Rattle.tree_pictures.specs.Boxes.{labels_from}
use Rattle.tree_pictures.proofs.boxes.labels_of.Given as goal

abbrev pub invariant-loop-i : goal.invariant-loop-i
invariant-loop-i l = map string_bytes l.labels.items ++ labels_from l.counts l.i (drop l.i l.nodes) ≡ labels_from l.counts 0 l.nodes
