use Rattle.std.proofs.Common.{ℕ, List}
use Rattle.tree_cursor.specs.Reading.{AreRead}
use Rattle.tree_cursor.proofs.Spelled.{Yields}
use Rattle.tree_cursor.proofs.reading.read_cursor.Given as goal

abbrev pub invariant-loop-piece : goal.invariant-loop-piece
invariant-loop-piece l = (left : List (List ℕ)) × Yields l.piece-iterator left × AreRead l.fn.text l.stack l.steps.items left
