use Rattle.std.proofs.Common.{◌≡◌, ◌++◌, take}
use Rattle.marpa_script.proofs.Listing.{more_names}
use Rattle.marpa_script.proofs.names.append_names.Given as goal

abbrev pub invariant-loop-symbol : goal.invariant-loop-symbol
invariant-loop-symbol l = l.line.items ≡ l.fn.line.items ++ more_names l.w (take l.symbol-index l.symbols)
