use Rattle.std.proofs.Common.{◌≡◌, map, take, string_bytes}
use Rattle.tree_pictures.specs.Places.{width_for}
use Rattle.tree_pictures.proofs.places.widths_of.Given as goal

abbrev pub invariant-loop-label : goal.invariant-loop-label
invariant-loop-label l = l.widths.items ≡ map width_for (map string_bytes (take l.label-index l.labels))
