use Rattle.std.proofs.Common.{refl, subst}
use Rattle.dsl_build.specs.declared.built.LexemeRow.{LexemeRow as HeldRow}
use Rattle.earley_sets.specs.Recognizer.{IsExpected}
use Rattle.scanless.proofs.kept.fitting.Goals as goal

pub returns-in_err-row-clause-none : goal.returns-in_err-row-clause-none
returns-in_err-row-clause-none c n r m e x = c.in_err-row.ensures.none refl r m e

pub returns-else-is_expected-clause-none : goal.returns-else-is_expected-clause-none
returns-else-is_expected-clause-none c n r m e x =
    let t = c.is_expected.ensures.1 (subst (λ (z : HeldRow). IsExpected c.args.recce.now z.symbol) (c.in_ok-row.ensures.some.2 r m e) x) in
    let f = c.if-is_expected.false in
    absurd (cc)
