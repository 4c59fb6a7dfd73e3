use Rattle.std.proofs.Common.{take}
use Rattle.std.specs.List.Sorted.{IsStrictlySortedBy}
use Rattle.std.specs.Ordering.{nat_cmp}
use Rattle.earley_sets.specs.Recognizer.{IsExpected}
use Rattle.dsl_build.specs.declared.built.LexemeRow.{LexemeRow as HeldRow}
use Rattle.prepared_grammars.specs.Gathered.{Gathers}
use Rattle.scanless.proofs.told.add_all_expected.Given as goal

abbrev pub invariant-loop-row : goal.invariant-loop-row
invariant-loop-row l = (Gathers (λ (r : HeldRow). IsExpected l.recce r.symbol) (λ (r : HeldRow). r.symbol) (take l.row-index l.rows) l.symbols.items) × IsStrictlySortedBy nat_cmp l.symbols.items
