use Rattle.std.proofs.Common.{arith, inl, inr, take, get_or, Contains, refl, sym, subst}
use Rattle.std.proofs.lemmas.List.{take_more, take_all}
use Rattle.std.proofs.lemmas.List.Elements.{Contains-get_or, Contains-push_cases}
use Rattle.scanless.proofs.kept.has_one.Goals as goal

pub loop-start-preserved : goal.loop-start-preserved
loop-start-preserved c k h m =
    let starts = c.args.starts.now in
    let i = c.loop-start.start-index in
    elim (Contains-push_cases (take i starts) (get_or starts i 0) k (subst (λ l. Contains l k) (take_more starts i 0 (omega arith)) h)) [
      | inl o ↦ c.loop-start.invariant k o m
      | inr e ↦ (let t = c.is_among.ensures.1 (subst (Contains c.args.matched.now) (sym e) m) in let f = c.if-is_among.false in absurd (cc))
    ]

pub returns-then-is_among : goal.returns-then-is_among
returns-then-is_among c = (
  (λ t. (get_or c.args.starts.now c.loop-start.start-index 0, Contains-get_or c.args.starts.now c.loop-start.start-index 0 (omega arith), c.is_among.ensures.0 c.if-is_among.true)),
  (λ h. refl),
)

pub returns : goal.returns
returns c = (
  (λ t. absurd (cc)),
  (λ (k, h, m). absurd (c.loop-start.invariant k (subst (λ l. Contains l k) (sym (take_all c.loop-start.start-index c.args.starts.now c.loop-start-test.false)) h) m)),
)
