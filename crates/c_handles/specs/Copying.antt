-- What stands in memory where something was copied.
use Rattle.std.specs.Prelude.{List, ◌++◌, length, take, drop}

-- as many of the first items as there is room for, and behind them what stood there
abbrev pub overlaid : {A : Type 0} → (from to : List A) → List A
overlaid from to = take (length to) from ++ drop (length from) to
