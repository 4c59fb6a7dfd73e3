use Rattle.std.proofs.Common.{◌≡◌, ◌∙◌, [], ◌∷◌, true, sym, ap, arith}
use Rattle.std.proofs.lemmas.List.{get_or_default}
use Rattle.std.proofs.lemmas.List.Elements.{AllWithin-none, AllWithin-more}
use Rattle.shared_lists.proofs.counts.first_failing.Goals as goal

pub loop-place-init : goal.loop-place-init
loop-place-init g c p by = AllWithin-none (λ x. p x ≡ true) c.args.list.now c.args.start

pub returns-then-not-test-clause-passed : goal.returns-then-not-test-clause-passed
returns-then-not-test-clause-passed g c p by = c.loop-place.invariant p by

pub returns-then-not-test-clause-failed : goal.returns-then-not-test-clause-failed
returns-then-not-test-clause-failed g c p by lt d =
    let called = (g.met.P.FnMut.1.post_iff _ _ _).0 c.test.ensures in
    let said = (by.at (_ ∷ []) _ _ called.1).0 in
    ap p (sym (c.index-list-place.is ∙ get_or_default c.args.list.now c.loop-place.place c.index-list-place.result d (let test = c.loop-place-test.true in let end = c.requires.bound in omega arith))) ∙ (sym said ∙ c.if-not-test.true)

pub loop-place-preserved : goal.loop-place-preserved
loop-place-preserved g c p by =
    let called = (g.met.P.FnMut.1.post_iff _ _ _).0 c.test.ensures in
    let said = (by.at (_ ∷ []) _ _ called.1).0 in
    AllWithin-more (λ x. p x ≡ true) c.args.list.now c.args.start c.loop-place.place (c.loop-place.invariant p by)
    (λ d. ap p (sym (c.index-list-place.is ∙ get_or_default c.args.list.now c.loop-place.place c.index-list-place.result d (let test = c.loop-place-test.true in let end = c.requires.bound in omega arith))) ∙ (sym said ∙ c.if-not-test.false))

pub returns-clause-passed : goal.returns-clause-passed
returns-clause-passed g c p by k d le lt = c.loop-place.invariant p by k d le (omega arith)
