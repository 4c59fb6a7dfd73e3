use Rattle.std.proofs.Common.{length, ap, arith, rules}
use Rattle.std.proofs.lemmas.Grind.{common_steps}
use Rattle.tree_pictures.proofs.Setting.{setting_step}
use Rattle.tree_pictures.proofs.places.placed_at.Goals as goal

pub loop-i-preserved : goal.loop-i-preserved
loop-i-preserved c =
    setting_step c.loop-i.tiles.items _ c.loop-i.ends.items c.args.widths.now c.args.aboves.now c.loop-i.i c.wanted_at.result c.row_under-row.result c.tile_in-tile.result
    (omega arith) c.tile_in-tile.ensures.row c.in_ok-push.ensures.items c.loop-i.invariant
    (record {
      row = grind (arith, common_steps);
      low = omega (arith, ap length c.deref.ensures.value);
      wide = grind (arith, common_steps);
      left = grind (arith, common_steps);
      middle = c.tile_in-tile.ensures.middle;
      near = search rules;
      narrow = omega (arith, c.type_inv.widths c.loop-i.i);
    })
