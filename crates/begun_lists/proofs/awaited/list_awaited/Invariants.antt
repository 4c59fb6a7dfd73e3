use Rattle.begun_lists.proofs.Symbols.{AwaitedTo}
use Rattle.begun_lists.proofs.awaited.list_awaited.Given as goal

abbrev pub invariant-loop-item : goal.invariant-loop-item
invariant-loop-item l = AwaitedTo l.flat l.items l.symbols.items l.item-index
