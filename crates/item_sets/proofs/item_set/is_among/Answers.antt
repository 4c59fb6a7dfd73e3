use Rattle.std.proofs.Common.{refl, sym, ◌∙◌, subst, arith, true≢false, Contains}
use Rattle.std.proofs.lemmas.List.{take_all, get_or_default}
use Rattle.finite_sets.proofs.Lists.{Contains-none}
use Rattle.item_sets.proofs.Holding.{not_more}
use Rattle.item_sets.proofs.item_set.is_among.Goals as goal

pub loop-other-init : goal.loop-other-init
loop-other-init c = λ h. Contains-none c.args.item h

pub loop-other-preserved : goal.loop-other-preserved
loop-other-preserved c =
    not_more c.args.items.now c.loop-other.other-index (record { rule = 0; dot = 0; origin = 0 }) c.args.item (omega arith) c.loop-other.invariant
    (λ e. true≢false (sym (c.same.ensures.1 e) ∙ c.if-same.false))

pub returns-then-same : goal.returns-then-same
returns-then-same c = (
  λ t. (c.loop-other.other-index, omega arith, get_or_default c.args.items.now c.loop-other.other-index c.args.item (record { rule = 0; dot = 0; origin = 0 }) (omega arith) ∙ c.same.ensures.0 c.if-same.true),
  λ h. refl,
)

pub returns : goal.returns
returns c = (
  λ t. absurd (true≢false (sym t)),
  λ h. absurd (c.loop-other.invariant (subst (λ l. Contains l c.args.item) (sym (take_all c.loop-other.other-index c.args.items.now c.loop-other-test.false)) h)),
)
