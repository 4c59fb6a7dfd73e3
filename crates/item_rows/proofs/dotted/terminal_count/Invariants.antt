use Rattle.std.proofs.Common.{◌<◌, ℕ}
use Rattle.item_rows.specs.Kept.{StandsForTerminal}
use Rattle.item_rows.proofs.dotted.terminal_count.Given as goal

abbrev pub invariant-loop-symbol : goal.invariant-loop-symbol
invariant-loop-symbol l = (x : ℕ) → x < l.symbol → StandsForTerminal l.flat x
