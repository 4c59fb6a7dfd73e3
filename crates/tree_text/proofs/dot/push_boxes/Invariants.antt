use Rattle.std.proofs.Common.{◌≡◌, ◌++◌, drop, string_bytes}
use Rattle.tree_text.specs.Written.{boxes_from}
use Rattle.tree_text.proofs.dot.push_boxes.Given as goal

abbrev pub invariant-loop-i : goal.invariant-loop-i
invariant-loop-i l = string_bytes l.out ++ boxes_from l.i (drop l.i l.nodes) ≡ string_bytes l.fn.out ++ boxes_from 0 l.nodes
