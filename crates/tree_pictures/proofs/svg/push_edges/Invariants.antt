use Rattle.std.proofs.Common.{◌≡◌, ◌++◌, drop, string_bytes}
use Rattle.tree_pictures.specs.Pictures.{edges}
use Rattle.tree_pictures.proofs.svg.push_edges.Given as goal

abbrev pub invariant-loop-i : goal.invariant-loop-i
invariant-loop-i l = string_bytes l.out ++ edges l.tiles (drop l.i l.aboves) (drop l.i l.tiles) ≡ string_bytes l.fn.out ++ edges l.tiles l.aboves l.tiles
