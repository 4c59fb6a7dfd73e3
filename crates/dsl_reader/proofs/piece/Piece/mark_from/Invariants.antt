use Rattle.std.proofs.Common.{◌≡◌, ◌≤◌, ◌+◌, ◌-◌, length, drop}
use Rattle.std.specs.List.{prefix_len}
use Rattle.dsl_reader.specs.Pieces.{is_unlike}
use Rattle.dsl_reader.proofs.piece.Piece.mark_from.Given as goal

abbrev pub invariant-loop-at : goal.invariant-loop-at
invariant-loop-at l = (l.at ≤ length l.self) × (l.at + prefix_len (is_unlike l.content) (drop l.at l.self) ≡ l.from + prefix_len (is_unlike l.content) (drop l.from l.self))

abbrev pub decreases-loop-at : goal.decreases-loop-at
decreases-loop-at l = length l.self - l.at
