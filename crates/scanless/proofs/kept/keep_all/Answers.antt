use Rattle.std.proofs.Common.{arith, [], take, subst, sym}
use Rattle.std.specs.List.Sorted.{IsStrictlySortedBy}
use Rattle.std.specs.Ordering.{nat_cmp}
use Rattle.std.proofs.lemmas.List.{take_more, take_all}
use Rattle.finite_sets.proofs.Lists.{Contains-none}
use Rattle.dsl_build.specs.declared.built.LexemeRow.{LexemeRow as HeldRow}
use Rattle.prepared_grammars.specs.Gathered.{Gathers}
use Rattle.scanless.specs.Pieces.{IsBest}
use Rattle.prepared_grammars.proofs.Gathering.{gathers_never}
use Rattle.scanless.proofs.kept.keep_all.Goals as goal
use Rattle.lexer.proofs.Sorted.{sorted_none}

pub loop-start-init : goal.loop-start-init
loop-start-init c = (
  subst (Gathers (IsBest c.args.recce.now [] c.args.highest.now) (λ (r : HeldRow). r.symbol) c.args.rows.now) (sym c.requires.none)
      (gathers_never (λ (r : HeldRow). r.symbol) c.args.rows.now (IsBest c.args.recce.now [] c.args.highest.now) (λ r b. Contains-none r.start b.0.0)),
  subst (IsStrictlySortedBy nat_cmp) (sym c.requires.none) sorted_none,
)

pub loop-start-preserved : goal.loop-start-preserved
loop-start-preserved c = (
  subst (λ starts. Gathers (IsBest c.args.recce.now starts c.args.highest.now) (λ (r : HeldRow). r.symbol) c.args.rows.now c.keep.new.kept.items) (sym (take_more c.args.matched.now c.loop-start.start-index 0 (omega arith)))
      (c.in_ok-keep.ensures.exact (take c.loop-start.start-index c.args.matched.now) c.loop-start.invariant.0),
  c.in_ok-keep.ensures.sorted,
)

pub returns-clause-sorted : goal.returns-clause-sorted
returns-clause-sorted c = c.loop-start.invariant.1

pub returns-clause-exact : goal.returns-clause-exact
returns-clause-exact c =
    subst (λ starts. Gathers (IsBest c.args.recce.now starts c.args.highest.now) (λ (r : HeldRow). r.symbol) c.args.rows.now c.loop-start.kept.items) (take_all c.loop-start.start-index c.args.matched.now c.loop-start-test.false) c.loop-start.invariant.0
