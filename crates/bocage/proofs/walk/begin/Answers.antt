use Rattle.std.proofs.Common.{◌≡◌, ◌∙◌, ◌++◌, ℕ, List, Some, length, Contains, ap, subst, arith}
use Rattle.recognizer_model.specs.declared.NodeKey.{NodeKey}
use Rattle.recognizer_model.specs.Flat.{rhs_of}
use Rattle.bocage.specs.Walk.{top_key}
use Rattle.bocage.proofs.Whole.{top_is}
use Rattle.bocage.proofs.walk.begin.Goals as goal

pub rhs-requires : goal.rhs-requires
rhs-requires c = (c.top-top.ensures.flat.tops c.start.result c.top-top.result c.top-top.ensures.value).is_top.is_rule

pub returns-clause-root : goal.returns-clause-root
returns-clause-root c =
    let top = top_is c.args.recce.now c.flat-flat.result.now c.start.result c.top-top.result c.flat-flat.ensures c.start.ensures c.top-top.ensures.value in
    let dot = ap (λ (l : List ℕ). length l) (c.rhs.ensures ∙ (λ i. rhs_of (c.flat-flat.ensures i) (top i))) in
    let end = c.place-2.ensures.place in
    let key : record { rule = c.top-top.result; dot = length c.rhs.result.now; origin = 0; end = c.place-2.result } ≡ top_key c.args.recce.now = (λ i. record { rule = top i; dot = dot i; origin = 0; end = end i }) in
    let (more, e, only) = c.in_ok-number_of.ensures.grows in
    let p = c.place.ensures.place in
    let n = c.if-place-eq0.false in (
      omega arith,
      c.in_ok-number_of.ensures.number ∙ ap Some key,
      λ z h. only z (subst (λ (l : List NodeKey). Contains l z) (e ∙ ap (λ (l : List NodeKey). l ++ more) c.requires) h) ∙ key,
    )
