use Rattle.std.proofs.Common.{inl, inr, refl, true≢false, sym, ◌∙◌}
use Rattle.std.proofs.lemmas.Result.{on_ok_weaker}
use Rattle.std.proofs.lemmas.List.Elements.{Contains-append_left, Contains-append_right, Contains-append_cases}
use Rattle.leo_items.specs.Walked.{NoStep, IsThere, IsNew}
use Rattle.leo_items.proofs.below.add_step.Goals as goal

pub returns-in_default : goal.returns-in_default
returns-in_default c = NoStep (c.in_default.ensures.none refl)

pub returns-then-is_first : goal.returns-then-is_first
returns-then-is_first c =
    IsThere c.in-Some.ensures.some (elim (c.is_first.ensures.0 c.if-is_first.true) [
      | inl t ↦ Contains-append_left c.args.tops.now c.args.bottoms.now c.in-Some.step t
      | inr b ↦ Contains-append_right c.args.tops.now c.args.bottoms.now c.in-Some.step b
    ])

pub returns : goal.returns
returns c =
    on_ok_weaker c.insert.result
    (λ adds. IsNew c.in-Some.ensures.some (λ h. true≢false (sym (c.is_first.ensures.1 (Contains-append_cases c.args.tops.now c.args.bottoms.now c.in-Some.step h)) ∙ c.if-is_first.false)) adds)
    c.insert.ensures.ok
