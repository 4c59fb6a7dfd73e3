use Rattle.std.proofs.Common.{◌+◌, take}
use Rattle.tree_pictures.specs.Pictures.{bottom, IsLeast}
use Rattle.tree_pictures.specs.Places.{right}
use Rattle.tree_pictures.proofs.svg.size_of.Given as goal

abbrev pub invariant-loop-tile : goal.invariant-loop-tile
invariant-loop-tile l = record {
  wide : IsLeast (λ tile. right tile + 10) (take l.tile-index l.tiles) l.size.width;
  high : IsLeast (λ tile. bottom tile + 10) (take l.tile-index l.tiles) l.size.height;
}
