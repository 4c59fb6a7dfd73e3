use Rattle.std.proofs.Common.{take}
use Rattle.prepared_grammars.proofs.Finding.{AddsStarts}
use Rattle.prepared_grammars.proofs.lookups.add_starts.Given as goal

abbrev pub invariant-loop-symbol : goal.invariant-loop-symbol
invariant-loop-symbol l = AddsStarts l.starts (take l.symbol-index l.symbols) l.initial.found.items l.found.items
