use Rattle.std.proofs.Common.{List, true, false, refl, sym, subst}
use Rattle.grammar_core.specs.declared.steps.TreeStep.{TreeStep}
use Rattle.std.proofs.lemmas.Result.{IfOk-from_err}
use Rattle.tree_iter.specs.Iteration.{AreGiven, IsAnswer, AreFew}
use Rattle.tree_iter.specs.declared.walk.Place.TheVariants.{Between}
use Rattle.tree_iter.specs.declared.iter.Current.TheVariants.{Walked, Ended}
use Rattle.tree_iter.specs.Walk.{Advances, Reaches, AreFewLooks, AreTakenBy, Remain, StandsBehind, IsUnderWay}
use Rattle.tree_iter.proofs.Given.{under_way_more, under_way_on, remain_none, answer_more, few_more, answer_none}
use Rattle.tree_iter.proofs.iter.TreeIter.next.Goals as goal

pub returns-then-is_spent-clause-answer : goal.returns-then-is_spent-clause-answer
returns-then-is_spent-clause-answer g c = λ given h.
    let u = c.self.invariant in
    let w = c.self.inside.walk in
    let behind : StandsBehind w u.rest = subst (λ p. Remain p w u.rest) c.in-Between.is u.remain in
    answer_none c.self.inside.walk c.self.inside.place c.self.inside.current c.self.inside.copy.items u c.self.inside.walk refl (c.is_spent.ensures c.if-is_spent.true u.rest behind) c.self.inside.copy.items given
    (subst (λ it. AreGiven it given) (sym c.self.view_is) h)

pub invariant_of-self-in_err-advance : goal.invariant_of-self-in_err-advance
invariant_of-self-in_err-advance g c =
    let u = c.self.invariant in
    let f = c.self.inside.walk.forest.now in
    let shown : AreTakenBy f c.self.inside.current c.deref.result.now c.self.inside.copy.items u.taken u.rest =
    subst (λ (s : List TreeStep). AreTakenBy f c.self.inside.current s c.self.inside.copy.items u.taken u.rest) (sym c.deref.ensures.value) u.taken_by in
    under_way_on c.self.inside.walk c.self.inside.place c.self.inside.current c.self.inside.copy.items u c.advance.new.walk c.advance.ensures.forest c.advance.new.place (c.in_err-advance.ensures.err u.rest u.remain) c.keep.new.current c.keep.new.copy.items
    ((c.in_ok-keep.ensures.ok c.advance.new.walk.steps.items).taken f u.taken u.rest shown)

pub invariant_of-self-then-not-branch : goal.invariant_of-self-then-not-branch
invariant_of-self-then-not-branch g c =
    let u = c.self.invariant in
    let none : Advances c.advance.new.place c.advance.new.walk u.rest false =
    subst (λ b. Advances c.advance.new.place c.advance.new.walk u.rest b) c.if-not-branch.true (c.in_ok-advance.ensures.ok u.rest u.remain) in
    under_way_on c.self.inside.walk c.self.inside.place c.self.inside.current c.self.inside.copy.items u c.advance.new.walk c.advance.ensures.forest c.advance.new.place (remain_none c.advance.new.walk c.advance.new.place u.rest none) Ended c.keep.new.copy.items none.2

pub returns-then-not-branch-clause-answer : goal.returns-then-not-branch-clause-answer
returns-then-not-branch-clause-answer g c = λ given h.
    let u = c.self.invariant in
    let none : Advances c.advance.new.place c.advance.new.walk u.rest false =
    subst (λ b. Advances c.advance.new.place c.advance.new.walk u.rest b) c.if-not-branch.true (c.in_ok-advance.ensures.ok u.rest u.remain) in
    answer_none c.self.inside.walk c.self.inside.place c.self.inside.current c.self.inside.copy.items u c.advance.new.walk c.advance.ensures.forest none.2 c.keep.new.copy.items given (subst (λ it. AreGiven it given) (sym c.self.view_is) h)

pub invariant_of-self-2 : goal.invariant_of-self-2
invariant_of-self-2 g c =
    let u = c.self.invariant in
    let more : Reaches c.advance.new.walk u.rest =
    subst (λ b. Advances c.advance.new.place c.advance.new.walk u.rest b) c.if-not-branch.false (c.in_ok-advance.ensures.ok u.rest u.remain) in
    under_way_more c.self.inside.walk c.self.inside.place c.self.inside.current c.self.inside.copy.items u c.advance.new.walk c.advance.ensures.forest more c.keep.new.copy.items

pub returns-clause-answer : goal.returns-clause-answer
returns-clause-answer g c = λ given h.
    let u = c.self.invariant in
    let more : Reaches c.advance.new.walk u.rest =
    subst (λ b. Advances c.advance.new.place c.advance.new.walk u.rest b) c.if-not-branch.false (c.in_ok-advance.ensures.ok u.rest u.remain) in
    answer_more c.self.inside.walk c.self.inside.place c.self.inside.current c.self.inside.copy.items u c.advance.new.walk c.advance.ensures.forest more c.keep.new.copy.items given (subst (λ it. AreGiven it given) (sym c.self.view_is) h)

pub returns-clause-few : goal.returns-clause-few
returns-clause-few g c = λ given h.
    let u = c.self.invariant in
    let more : Reaches c.advance.new.walk u.rest =
    subst (λ b. Advances c.advance.new.place c.advance.new.walk u.rest b) c.if-not-branch.false (c.in_ok-advance.ensures.ok u.rest u.remain) in
    let few : AreFewLooks c.advance.new.walk true c.args.steps.now c.advance.new.steps = subst (λ b. AreFewLooks c.advance.new.walk b c.args.steps.now c.advance.new.steps) c.if-not-branch.false c.in_ok-advance.ensures.few in
    few_more c.self.inside.walk c.self.inside.place c.self.inside.current c.self.inside.copy.items u c.advance.new.walk c.advance.ensures.forest more c.keep.new.copy.items c.args.steps.now c.advance.new.steps few given (subst (λ it. AreGiven it given) (sym c.self.view_is) h)

pub returns-in_err-keep-clause-answer : goal.returns-in_err-keep-clause-answer
returns-in_err-keep-clause-answer g c = IfOk-from_err _ _ c.from_residual.ensures.0

pub returns-in_err-keep-clause-stands : goal.returns-in_err-keep-clause-stands
returns-in_err-keep-clause-stands g c = IfOk-from_err _ _ c.from_residual.ensures.0

pub returns-in_err-keep-clause-end : goal.returns-in_err-keep-clause-end
returns-in_err-keep-clause-end g c = IfOk-from_err _ _ c.from_residual.ensures.0

pub returns-in_err-keep-clause-few : goal.returns-in_err-keep-clause-few
returns-in_err-keep-clause-few g c = IfOk-from_err _ _ c.from_residual.ensures.0

pub returns-in_err-advance-clause-answer : goal.returns-in_err-advance-clause-answer
returns-in_err-advance-clause-answer g c = IfOk-from_err _ _ c.from_residual-in_err-advance.ensures.0

pub returns-in_err-advance-clause-stands : goal.returns-in_err-advance-clause-stands
returns-in_err-advance-clause-stands g c = IfOk-from_err _ _ c.from_residual-in_err-advance.ensures.0

pub returns-in_err-advance-clause-end : goal.returns-in_err-advance-clause-end
returns-in_err-advance-clause-end g c = IfOk-from_err _ _ c.from_residual-in_err-advance.ensures.0

pub returns-in_err-advance-clause-few : goal.returns-in_err-advance-clause-few
returns-in_err-advance-clause-few g c = IfOk-from_err _ _ c.from_residual-in_err-advance.ensures.0
