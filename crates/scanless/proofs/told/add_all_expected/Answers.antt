use Rattle.std.proofs.Common.{arith, [], subst, sym}
use Rattle.std.specs.List.Sorted.{IsStrictlySortedBy}
use Rattle.std.specs.Ordering.{nat_cmp}
use Rattle.earley_sets.specs.Recognizer.{IsExpected}
use Rattle.dsl_build.specs.declared.built.LexemeRow.{LexemeRow as HeldRow}
use Rattle.prepared_grammars.specs.Gathered.{Gathers}
use Rattle.prepared_grammars.proofs.Gathering.{gathers_none, gathers_more, gathers_all}
use Rattle.scanless.proofs.Ascending.{sorted_more}
use Rattle.scanless.proofs.told.add_all_expected.Goals as goal
use Rattle.lexer.proofs.Sorted.{sorted_none}

pub loop-row-init : goal.loop-row-init
loop-row-init c = (
  subst (Gathers (λ (r : HeldRow). IsExpected c.args.recce.now r.symbol) (λ (r : HeldRow). r.symbol) []) (sym c.requires.none) (gathers_none (λ (r : HeldRow). IsExpected c.args.recce.now r.symbol) (λ (r : HeldRow). r.symbol)),
  subst (IsStrictlySortedBy nat_cmp) (sym c.requires.none) sorted_none,
)

pub loop-row-preserved : goal.loop-row-preserved
loop-row-preserved c = (
  gathers_more (λ (r : HeldRow). IsExpected c.args.recce.now r.symbol) (λ (r : HeldRow). r.symbol) c.args.rows.now c.loop-row.row-index c.row-item.result c.loop-row.symbols.items c.add_expected.new.symbols.items (omega arith) c.row-item.is c.loop-row.invariant.0 c.in_ok-add_expected.ensures,
  sorted_more (λ (r : HeldRow). IsExpected c.args.recce.now r.symbol) (λ (r : HeldRow). r.symbol) c.args.rows.now c.requires.order c.loop-row.row-index c.row-item.result (omega arith) c.row-item.is c.loop-row.symbols.items c.add_expected.new.symbols.items c.loop-row.invariant.0 c.loop-row.invariant.1 c.in_ok-add_expected.ensures,
)

pub returns-clause-sorted : goal.returns-clause-sorted
returns-clause-sorted c = c.loop-row.invariant.1

pub returns-clause-exact : goal.returns-clause-exact
returns-clause-exact c = gathers_all (λ (r : HeldRow). IsExpected c.args.recce.now r.symbol) (λ (r : HeldRow). r.symbol) c.args.rows.now c.loop-row.row-index c.loop-row.symbols.items c.loop-row-test.false c.loop-row.invariant.0
