use Rattle.std.proofs.Common.{arith, take, sym, subst}
use Rattle.std.specs.Prelude.{option_copied}
use Rattle.std.proofs.lemmas.List.{take_more, take_all}
use Rattle.scanless.specs.Pieces.{IsHighestOf, IsFit}
use Rattle.scanless.proofs.Highest.{highest_none}
use Rattle.scanless.proofs.kept.highest.Goals as goal

pub loop-start-init : goal.loop-start-init
loop-start-init c = highest_none c.args.recce.now c.args.rows.now

pub loop-start-preserved : goal.loop-start-preserved
loop-start-preserved c =
    subst (λ starts. IsHighestOf (IsFit c.args.recce.now starts) c.args.rows.now (option_copied c.raised-highest.result)) (sym (take_more c.args.matched.now c.loop-start.start-index 0 (omega arith)))
    (c.raised-highest.ensures (take c.loop-start.start-index c.args.matched.now) c.loop-start.invariant)

pub returns : goal.returns
returns c =
    subst (λ starts. IsHighestOf (IsFit c.args.recce.now starts) c.args.rows.now (option_copied c.loop-start.highest)) (take_all c.loop-start.start-index c.args.matched.now c.loop-start-test.false) c.loop-start.invariant
