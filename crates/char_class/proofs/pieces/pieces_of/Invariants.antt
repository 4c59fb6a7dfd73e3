use Rattle.std.proofs.Common.{◌≡◌, ◌-◌, ◌++◌, length, drop}
use Rattle.language_model.specs.Classes.{pieces_of}
use Rattle.char_class.proofs.pieces.pieces_of.Given as goal

abbrev pub invariant-loop-at : goal.invariant-loop-at
invariant-loop-at l = l.pieces.items ++ pieces_of (drop l.at l.text) ≡ pieces_of l.text

abbrev pub decreases-loop-at : goal.decreases-loop-at
decreases-loop-at l = length l.text - l.at
