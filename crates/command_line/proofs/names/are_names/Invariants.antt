use Rattle.std.proofs.Common.{ℕ, List}
use Rattle.command_line.proofs.Different.{AreTried, Yields}
use Rattle.command_line.proofs.names.are_names.Given as goal

abbrev pub invariant-loop-name : goal.invariant-loop-name
invariant-loop-name l = (left : List (List ℕ)) × Yields l.name-iterator left × AreTried l.fn.text l.names l.count left
