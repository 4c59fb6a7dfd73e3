use Rattle.tree_pictures.proofs.Setting.{IsSetting}
use Rattle.tree_pictures.proofs.places.placed_at.Given as goal

abbrev pub invariant-loop-i : goal.invariant-loop-i
invariant-loop-i l = IsSetting l.tiles.items l.ends.items l.widths l.aboves l.i
