use Rattle.std.proofs.Common.{◌+◌, arith}
use Rattle.tree_pictures.specs.Pictures.{bottom}
use Rattle.tree_pictures.specs.Places.{right}
use Rattle.tree_pictures.proofs.Bounded.{least_none, least_more, least_all}
use Rattle.tree_pictures.proofs.svg.size_of.Goals as goal

pub loop-tile-init : goal.loop-tile-init
loop-tile-init c = record {
  wide = least_none (λ t. right t + 10) c.args.tiles.now;
  high = least_none (λ t. bottom t + 10) c.args.tiles.now;
}

pub loop-tile-preserved : goal.loop-tile-preserved
loop-tile-preserved c = record {
  wide = least_more (λ t. right t + 10) c.args.tiles.now c.loop-tile.tile-index _ _ _ (omega arith) c.around-size.ensures.width c.loop-tile.invariant.wide;
  high = least_more (λ t. bottom t + 10) c.args.tiles.now c.loop-tile.tile-index _ _ _ (omega arith) c.around-size.ensures.height c.loop-tile.invariant.high;
}

pub returns-clause-width : goal.returns-clause-width
returns-clause-width c = least_all (λ t. right t + 10) c.args.tiles.now c.loop-tile.tile-index c.loop-tile.size.width (omega arith) c.loop-tile.invariant.wide

pub returns-clause-height : goal.returns-clause-height
returns-clause-height c = least_all (λ t. bottom t + 10) c.args.tiles.now c.loop-tile.tile-index c.loop-tile.size.height (omega arith) c.loop-tile.invariant.high
