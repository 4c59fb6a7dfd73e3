use Rattle.std.proofs.Common.{Contains, subst, sym}
use Rattle.scanless.proofs.Choosing.{skipped_is}
use Rattle.scanless.proofs.kept.is_skipped.Goals as goal

pub returns : goal.returns
returns c = λ text pieces at n by.
    let s = skipped_is c.args.p.now text pieces at n c.args.matched.now by in (
      (λ t. s.0 (let (k, m, mk) = c.has_one.ensures.0 t in (k, subst (λ ds. Contains ds k) c.discards.ensures m, mk))),
      (λ h. c.has_one.ensures.1 (let (k, m, mk) = s.1 h in (k, subst (λ ds. Contains ds k) (sym c.discards.ensures) m, mk))),
    )
