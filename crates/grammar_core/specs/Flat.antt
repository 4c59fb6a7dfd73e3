-- What a binary search asks of flat symbols.
use Rattle.std.specs.Prelude.{ℕ, Bool, false, nat_lt}
use Rattle.recognizer_model.specs.declared.flat.FlatSymbol.{FlatSymbol}
use Rattle.recognizer_model.specs.declared.flat.FlatSymbol.TheVariants.{Terminal}

-- whether the symbol stands for a terminal of a lower number
abbrev pub terminal_below : ℕ → FlatSymbol → Bool
terminal_below t (Terminal s) = nat_lt s t
terminal_below t _ = false
