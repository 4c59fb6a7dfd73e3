use Rattle.std.proofs.Common.{ℕ, List, length}
use Rattle.flat_steps.specs.Writing.{IsCounted, AreTakenOff}
use Rattle.flat_steps.proofs.writing.newest.Given as goal

abbrev pub invariant-newest : goal.invariant-newest
invariant-newest l = (counts : List ℕ) → IsCounted l.rows (length l.rows) counts → AreTakenOff l.rows l.counter counts (record { count = l.sum; below = l.top })
