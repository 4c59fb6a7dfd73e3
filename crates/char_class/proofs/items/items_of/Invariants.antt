use Rattle.std.proofs.Common.{◌≡◌, ◌≤◌, ◌-◌, length, drop}
use Rattle.language_model.specs.Classes.{items_of}
use Rattle.char_class.proofs.ItemsLemmas.{with_prefix}
use Rattle.char_class.proofs.items.items_of.Given as goal

abbrev pub invariant-loop-at : goal.invariant-loop-at
invariant-loop-at l = (l.at ≤ length l.pieces) × (with_prefix l.items.items (items_of (drop l.at l.pieces)) ≡ items_of l.pieces)

abbrev pub decreases-loop-at : goal.decreases-loop-at
decreases-loop-at l = length l.pieces - l.at
