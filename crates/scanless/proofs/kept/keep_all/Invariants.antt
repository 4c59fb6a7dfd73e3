use Rattle.std.proofs.Common.{take}
use Rattle.std.specs.List.Sorted.{IsStrictlySortedBy}
use Rattle.std.specs.Ordering.{nat_cmp}
use Rattle.dsl_build.specs.declared.built.LexemeRow.{LexemeRow as HeldRow}
use Rattle.prepared_grammars.specs.Gathered.{Gathers}
use Rattle.scanless.specs.Pieces.{IsBest}
use Rattle.scanless.proofs.kept.keep_all.Given as goal

abbrev pub invariant-loop-start : goal.invariant-loop-start
invariant-loop-start l = (Gathers (IsBest l.recce (take l.start-index l.matched) l.highest) (λ (r : HeldRow). r.symbol) l.rows l.kept.items) × IsStrictlySortedBy nat_cmp l.kept.items
