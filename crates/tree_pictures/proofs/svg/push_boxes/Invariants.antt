use Rattle.std.proofs.Common.{◌≡◌, ◌++◌, drop, map, string_bytes}
use Rattle.tree_pictures.specs.Pictures.{boxes}
use Rattle.tree_pictures.proofs.svg.push_boxes.Given as goal

abbrev pub invariant-loop-i : goal.invariant-loop-i
invariant-loop-i l = string_bytes l.out ++ boxes l.tiles l.i (map string_bytes (drop l.i l.labels)) ≡ string_bytes l.fn.out ++ boxes l.tiles 0 (map string_bytes l.labels)
