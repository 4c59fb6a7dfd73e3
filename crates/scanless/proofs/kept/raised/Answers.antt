use Rattle.std.proofs.Common.{◌≡◌, Some, None, subst}
use Rattle.std.specs.Prelude.{option_copied}
use Rattle.scanless.specs.Pieces.{IsHighestOf, IsFit}
use Rattle.scanless.proofs.Highest.{highest_same, highest_first, highest_with}
use Rattle.scanless.proofs.Results.{is_none}
use Rattle.scanless.proofs.kept.raised.Goals as goal

pub returns-in_default : goal.returns-in_default
returns-in_default c = λ starts h. highest_same c.args.recce.now c.args.rows.now starts c.args.start (c.fitting.ensures.none (is_none c.fitting.result c.in_default.is)) (option_copied c.args.highest) h

pub returns-in-Some-highest : goal.returns-in-Some-highest
returns-in-Some-highest c = λ starts h.
    let e : c.args.highest ≡ Some c.in-Some-highest.other = cc in
    highest_with c.args.recce.now c.args.rows.now starts c.args.start c.in-Some.row.now c.in-Some.ensures.some.0 c.in-Some.ensures.some.1 c.in-Some-highest.other.now c.greater.result.now c.greater.ensures.bound c.greater.ensures.one
    (subst (λ o. IsHighestOf (IsFit c.args.recce.now starts) c.args.rows.now (option_copied o)) e h)

pub returns-in-None : goal.returns-in-None
returns-in-None c = λ starts h.
    let e : c.args.highest ≡ None = cc in
    highest_first c.args.recce.now c.args.rows.now starts c.args.start c.in-Some.row.now c.in-Some.ensures.some.0 c.in-Some.ensures.some.1
    (subst (λ o. IsHighestOf (IsFit c.args.recce.now starts) c.args.rows.now (option_copied o)) e h)
