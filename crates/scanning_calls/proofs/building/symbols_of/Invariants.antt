use Rattle.std.proofs.Common.{◌≡◌, take}
use Rattle.scanning_calls.proofs.building.symbols_of.Given as goal

abbrev pub invariant-loop-number : goal.invariant-loop-number
invariant-loop-number l = l.symbols.items ≡ take l.number-index l.numbers
