use Rattle.std.proofs.Common.{◌≡◌, length}
use Rattle.kernels.specs.Slots.{dotted_of}
use Rattle.item_rows.specs.Noted.{AreBlocks}
use Rattle.item_rows.proofs.places.list_places.Given as goal

abbrev pub invariant-loop-symbol : goal.invariant-loop-symbol
invariant-loop-symbol l = (length l.block.items ≡ l.symbol) × AreBlocks l.dotted.flat l.dotted.rules (dotted_of l.slotted) l.list l.block.items
