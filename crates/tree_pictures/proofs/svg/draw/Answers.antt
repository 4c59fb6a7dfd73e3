use Rattle.std.proofs.Common.{codes, map, string_bytes}
use Rattle.tree_pictures.specs.Pictures.{picture_head, edges, boxes}
use Rattle.tree_pictures.proofs.Appended.{four_alone}
use Rattle.tree_pictures.proofs.svg.draw.Goals as goal

pub returns : goal.returns
returns c = record {
  width = c.size_of-size.result.width;
  height = c.size_of-size.result.height;
  wide = c.size_of-size.ensures.width;
  high = c.size_of-size.ensures.height;
  is = four_alone (string_bytes c.new-text.result) (picture_head c.size_of-size.result.width c.size_of-size.result.height) (edges c.args.tiles.now c.args.aboves.now c.args.tiles.now) (boxes c.args.tiles.now 0 (map string_bytes c.args.labels.now)) (codes "</svg>\n") _ _ _ _
      c.new-text.ensures.bytes c.in_ok-push_head.ensures c.in_ok-push_edges.ensures c.in_ok-push_boxes.ensures c.in_ok-put.ensures;
}
