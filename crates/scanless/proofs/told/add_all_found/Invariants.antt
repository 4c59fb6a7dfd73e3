use Rattle.std.proofs.Common.{take, Contains}
use Rattle.std.specs.List.Sorted.{IsStrictlySortedBy}
use Rattle.std.specs.Ordering.{nat_cmp}
use Rattle.dsl_build.specs.declared.built.LexemeRow.{LexemeRow as HeldRow}
use Rattle.prepared_grammars.specs.Gathered.{Gathers}
use Rattle.scanless.proofs.told.add_all_found.Given as goal

abbrev pub invariant-loop-start : goal.invariant-loop-start
invariant-loop-start l = (Gathers (λ (r : HeldRow). Contains (take l.start-index l.matched) r.start) (λ (r : HeldRow). r.symbol) l.rows l.symbols.items) × IsStrictlySortedBy nat_cmp l.symbols.items
