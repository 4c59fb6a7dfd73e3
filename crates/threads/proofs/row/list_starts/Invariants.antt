use Rattle.std.proofs.Common.{take}
use Rattle.threads.proofs.Parts.{StartsTo}
use Rattle.threads.proofs.row.list_starts.Given as goal

abbrev pub invariant-loop-start : goal.invariant-loop-start
invariant-loop-start l = StartsTo l.flat l.starts (take l.start-index l.starts) l.seeds.items
