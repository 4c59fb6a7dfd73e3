use Rattle.std.proofs.Common.{arith, [], take, Contains, subst, sym}
use Rattle.std.specs.List.Sorted.{IsStrictlySortedBy}
use Rattle.std.specs.Ordering.{nat_cmp}
use Rattle.std.proofs.lemmas.List.{take_more, take_all}
use Rattle.finite_sets.proofs.Lists.{Contains-none}
use Rattle.dsl_build.specs.declared.built.LexemeRow.{LexemeRow as HeldRow}
use Rattle.prepared_grammars.specs.Gathered.{Gathers}
use Rattle.prepared_grammars.proofs.Gathering.{gathers_never}
use Rattle.scanless.proofs.told.add_all_found.Goals as goal
use Rattle.lexer.proofs.Sorted.{sorted_none}

pub loop-start-init : goal.loop-start-init
loop-start-init c = (
  subst (Gathers (λ (r : HeldRow). Contains [] r.start) (λ (r : HeldRow). r.symbol) c.args.rows.now) (sym c.requires.none) (gathers_never (λ (r : HeldRow). r.symbol) c.args.rows.now (λ (r : HeldRow). Contains [] r.start) (λ r m. Contains-none r.start m)),
  subst (IsStrictlySortedBy nat_cmp) (sym c.requires.none) sorted_none,
)

pub loop-start-preserved : goal.loop-start-preserved
loop-start-preserved c = (
  subst (λ starts. Gathers (λ (r : HeldRow). Contains starts r.start) (λ (r : HeldRow). r.symbol) c.args.rows.now c.add_found.new.symbols.items) (sym (take_more c.args.matched.now c.loop-start.start-index 0 (omega arith)))
      (c.in_ok-add_found.ensures.exact (take c.loop-start.start-index c.args.matched.now) c.loop-start.invariant.0),
  c.in_ok-add_found.ensures.sorted,
)

pub returns-clause-sorted : goal.returns-clause-sorted
returns-clause-sorted c = c.loop-start.invariant.1

pub returns-clause-exact : goal.returns-clause-exact
returns-clause-exact c =
    subst (λ starts. Gathers (λ (r : HeldRow). Contains starts r.start) (λ (r : HeldRow). r.symbol) c.args.rows.now c.loop-start.symbols.items) (take_all c.loop-start.start-index c.args.matched.now c.loop-start-test.false) c.loop-start.invariant.0
