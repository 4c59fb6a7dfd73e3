use Rattle.std.proofs.Common.{ap, map, string_bytes}
use Rattle.tree_pictures.proofs.Appended.{same_picture}
use Rattle.tree_pictures.proofs.Before.{boxes_before}
use Rattle.tree_pictures.proofs.svg.picture_of.Goals as goal

pub returns : goal.returns
returns c = record {
  labels = map string_bytes c.in_ok-boxes.boxes.labels.items;
  aboves = c.in_ok-boxes.boxes.aboves.items;
  tiles = c.in_ok-tiles.tiles.items;
  boxes = c.in_ok-boxes.ensures.boxes;
  before = boxes_before c.args.nodes.now _ _ c.in_ok-boxes.ensures.boxes;
  placed = c.in_ok-tiles.ensures.placed;
  picture = same_picture _ _ _ _ _ _ _ c.deref.ensures.value (ap (map string_bytes) c.deref-2.ensures.value) c.deref-3.ensures.value c.in_ok-text.ensures;
}
