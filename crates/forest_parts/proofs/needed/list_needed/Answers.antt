use Rattle.std.proofs.Common.{true≢false, ◌∙◌, List, length, sym, ap, subst, arith}
use Rattle.std.proofs.lemmas.Result.{IfOk-weaker}
use Rattle.recognizer_model.specs.declared.Item.{Item}
use Rattle.recognizer_model.specs.Counts.{IsListOf}
use Rattle.earley_sets.specs.Below.{StandsBelowOf}
use Rattle.forest_parts.specs.Needed.{AreTops}
use Rattle.forest_parts.proofs.Tops.{top_bottom, bottoms_are, below_exact, below_counted, none_below, none_of}
use Rattle.forest_parts.proofs.needed.list_needed.Goals as goal

pub below-requires-clause-bottoms : goal.below-requires-clause-bottoms
below-requires-clause-bottoms g c =
    let tops = subst (λ (l : List Item). AreTops c.args.recce.now c.in_ok-unasked.unasked.keys c.args.end c.args.least l c.deref-2.result.now) (sym c.deref.ensures.value)
    (subst (λ (l : List Item). AreTops c.args.recce.now c.in_ok-unasked.unasked.keys c.args.end c.args.least c.list_tops.new.tops.items l) (sym c.deref-2.ensures.value) c.in_ok-list_tops.ensures) in
    bottoms_are c.args.recce.now c.requires.is c.in_ok-unasked.unasked.keys c.args.end c.args.least c.requires.end c.deref.result.now c.deref-2.result.now tops

pub below-requires-clause-tops : goal.below-requires-clause-tops
below-requires-clause-tops g c =
    let tops = subst (λ (l : List Item). AreTops c.args.recce.now c.in_ok-unasked.unasked.keys c.args.end c.args.least l c.deref-2.result.now) (sym c.deref.ensures.value)
    (subst (λ (l : List Item). AreTops c.args.recce.now c.in_ok-unasked.unasked.keys c.args.end c.args.least c.list_tops.new.tops.items l) (sym c.deref-2.ensures.value) c.in_ok-list_tops.ensures) in
    top_bottom c.args.recce.now c.requires.is c.in_ok-unasked.unasked.keys c.args.end c.args.least c.requires.end c.deref.result.now c.deref-2.result.now tops

pub returns-clause-exact : goal.returns-clause-exact
returns-clause-exact g c =
    let tops = subst (λ (l : List Item). AreTops c.args.recce.now c.in_ok-unasked.unasked.keys c.args.end c.args.least l c.deref-2.result.now) (sym c.deref.ensures.value)
    (subst (λ (l : List Item). AreTops c.args.recce.now c.in_ok-unasked.unasked.keys c.args.end c.args.least c.list_tops.new.tops.items l) (sym c.deref-2.ensures.value) c.in_ok-list_tops.ensures) in
    IfOk-weaker c.below.result _ _ (λ items lists. below_exact c.args.recce.now c.requires.is c.in_ok-unasked.unasked.keys c.args.end c.args.least c.requires.end c.deref.result.now c.deref-2.result.now tops c.args.w.now c.args.ranking c.args.keys.now.keys c.in_ok-unasked.ensures.unasked c.in_ok-unasked.ensures.asked items.items lists) c.below.ensures.below

pub returns-clause-counted : goal.returns-clause-counted
returns-clause-counted g c =
    let tops = subst (λ (l : List Item). AreTops c.args.recce.now c.in_ok-unasked.unasked.keys c.args.end c.args.least l c.deref-2.result.now) (sym c.deref.ensures.value)
    (subst (λ (l : List Item). AreTops c.args.recce.now c.in_ok-unasked.unasked.keys c.args.end c.args.least c.list_tops.new.tops.items l) (sym c.deref-2.ensures.value) c.in_ok-list_tops.ensures) in
    below_counted c.args.recce.now c.requires.is c.in_ok-unasked.unasked.keys c.args.end c.args.least c.requires.end c.deref.result.now c.deref-2.result.now tops c.args.w.now c.args.ranking c.args.keys.now.keys c.in_ok-unasked.ensures.unasked c.in_ok-unasked.ensures.asked c.args.steps.now c.below.new.steps c.below.result c.below.ensures.below c.below.ensures.counted c.below.ensures.err

pub returns-then-not-may_hide-clause-exact : goal.returns-then-not-may_hide-clause-exact
returns-then-not-may_hide-clause-exact g c =
    none_below c.args.w.now c.args.ranking c.args.recce.now c.requires.is c.args.keys.now.keys c.args.end c.args.least (c.may_hide.ensures.none (λ t. true≢false (sym t ∙ c.if-not-may_hide.true))) c.new.result.items c.new.ensures.items

pub returns-clause-tops : goal.returns-clause-tops
returns-clause-tops g c = IfOk-weaker c.below.result _ _ (λ items lists. subst (λ (l : List Item). IsListOf (StandsBelowOf c.args.recce.now c.args.end l) items.items) c.deref.ensures.value lists) c.below.ensures.below

pub returns-then-not-may_hide-clause-tops : goal.returns-then-not-may_hide-clause-tops
returns-then-not-may_hide-clause-tops g c = none_of c.args.recce.now c.args.end c.clear.new.self.items c.new.result.items c.clear.ensures.items c.new.ensures.items

pub returns-then-not-may_hide-clause-all : goal.returns-then-not-may_hide-clause-all
returns-then-not-may_hide-clause-all g c =
    let none = ap (λ (l : List Item). length l) c.new.ensures.items in
    omega arith
