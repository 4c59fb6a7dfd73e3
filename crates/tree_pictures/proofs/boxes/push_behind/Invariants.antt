use Rattle.std.proofs.Common.{◌≡◌, ◌++◌, drop, string_bytes}
use Rattle.tree_pictures.specs.Boxes.{label_behind}
use Rattle.tree_pictures.proofs.boxes.push_behind.Given as goal

abbrev pub invariant-loop-i : goal.invariant-loop-i
invariant-loop-i l = string_bytes l.out ++ label_behind l.counts l.i (drop l.i l.nodes) ≡ string_bytes l.fn.out ++ label_behind l.counts l.fn.from (drop l.fn.from l.nodes)
