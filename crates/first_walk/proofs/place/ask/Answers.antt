use Rattle.std.proofs.Common.{true≢false, ◌∙◌, [], ◌∷◌, List, Contains, refl, sym, subst}
use Rattle.std.proofs.lemmas.Result.{IfOk-weaker}
use Rattle.recognizer_model.specs.declared.Item.{Item}
use Rattle.recognizer_model.specs.declared.NodeKey.{NodeKey}
use Rattle.forest_parts.specs.Hidden.{RisesWithin}
use Rattle.forest_parts.specs.Needed.{AreTops, IsBelowAsked}
use Rattle.forest_parts.proofs.Tops.{top_bottom, bottoms_are, below_exact, below_counted, none_below}
use Rattle.forest_parts.proofs.Taking.{unasked_none}
use Rattle.first_walk.proofs.NearTops.{leads_of, told_near}
use Rattle.first_walk.proofs.place.ask.Goals as goal

pub returns-then-not-may_hide-clause-exact : goal.returns-then-not-may_hide-clause-exact
returns-then-not-may_hide-clause-exact g c =
    none_below c.args.w.now c.args.ranking c.args.recce.now c.requires.read.is (c.args.first ∷ []) c.args.first.end c.args.first.origin (c.may_hide.ensures.none (λ t. true≢false (sym t ∙ c.if-not-may_hide.true))) c.new.result.items c.new.ensures.items

pub are_near-requires-clause-tops : goal.are_near-requires-clause-tops
are_near-requires-clause-tops g c top h =
    leads_of c.args.recce.now c.args.first.end c.args.first.origin c.list_tops.new.tops.items c.list_tops.new.bottoms.items c.in_ok-list_tops.ensures top (subst (λ (l : List Item). Contains l top) c.deref.ensures.value h)

pub below-requires-clause-bottoms : goal.below-requires-clause-bottoms
below-requires-clause-bottoms g c =
    let tops = subst (λ (l : List Item). AreTops c.args.recce.now [] c.args.first.end c.args.first.origin l c.deref-then-are_near-2.result.now) (sym c.deref-then-are_near.ensures.value)
    (subst (λ (l : List Item). AreTops c.args.recce.now [] c.args.first.end c.args.first.origin c.list_tops.new.tops.items l) (sym c.deref-then-are_near-2.ensures.value) c.in_ok-list_tops.ensures) in
    bottoms_are c.args.recce.now c.requires.read.is [] c.args.first.end c.args.first.origin c.requires.end c.deref-then-are_near.result.now c.deref-then-are_near-2.result.now tops

pub below-requires-clause-tops : goal.below-requires-clause-tops
below-requires-clause-tops g c =
    let tops = subst (λ (l : List Item). AreTops c.args.recce.now [] c.args.first.end c.args.first.origin l c.deref-then-are_near-2.result.now) (sym c.deref-then-are_near.ensures.value)
    (subst (λ (l : List Item). AreTops c.args.recce.now [] c.args.first.end c.args.first.origin c.list_tops.new.tops.items l) (sym c.deref-then-are_near-2.ensures.value) c.in_ok-list_tops.ensures) in
    top_bottom c.args.recce.now c.requires.read.is [] c.args.first.end c.args.first.origin c.requires.end c.deref-then-are_near.result.now c.deref-then-are_near-2.result.now tops

pub returns-then-are_near-clause-exact : goal.returns-then-are_near-clause-exact
returns-then-are_near-clause-exact g c =
    let tops = subst (λ (l : List Item). AreTops c.args.recce.now [] c.args.first.end c.args.first.origin l c.deref-then-are_near-2.result.now) (sym c.deref-then-are_near.ensures.value)
    (subst (λ (l : List Item). AreTops c.args.recce.now [] c.args.first.end c.args.first.origin c.list_tops.new.tops.items l) (sym c.deref-then-are_near-2.ensures.value) c.in_ok-list_tops.ensures) in
    let told =
    told_near c.args.recce.now c.args.first.end c.args.first.origin c.deref-then-are_near.result.now c.deref-then-are_near-2.result.now tops c.args.w.now c.args.ranking (c.args.first ∷ [])
    (λ top h. c.are_near.ensures c.if-are_near.true c.args.w.now top (subst (λ (l : List Item). Contains l top) (c.deref-then-are_near.ensures.value ∙ sym c.deref.ensures.value) h)) in
    IfOk-weaker c.below.result _ _ (λ items lists. below_exact c.args.recce.now c.requires.read.is [] c.args.first.end c.args.first.origin c.requires.end c.deref-then-are_near.result.now c.deref-then-are_near-2.result.now tops c.args.w.now c.args.ranking (c.args.first ∷ []) (unasked_none c.args.w.now c.args.ranking c.args.recce.now (c.args.first ∷ []) c.args.first.end [] refl) told items.items lists) c.below.ensures.below

pub returns-then-are_near-clause-counted : goal.returns-then-are_near-clause-counted
returns-then-are_near-clause-counted g c =
    let tops = subst (λ (l : List Item). AreTops c.args.recce.now [] c.args.first.end c.args.first.origin l c.deref-then-are_near-2.result.now) (sym c.deref-then-are_near.ensures.value)
    (subst (λ (l : List Item). AreTops c.args.recce.now [] c.args.first.end c.args.first.origin c.list_tops.new.tops.items l) (sym c.deref-then-are_near-2.ensures.value) c.in_ok-list_tops.ensures) in
    let told =
    told_near c.args.recce.now c.args.first.end c.args.first.origin c.deref-then-are_near.result.now c.deref-then-are_near-2.result.now tops c.args.w.now c.args.ranking (c.args.first ∷ [])
    (λ top h. c.are_near.ensures c.if-are_near.true c.args.w.now top (subst (λ (l : List Item). Contains l top) (c.deref-then-are_near.ensures.value ∙ sym c.deref.ensures.value) h)) in
    below_counted c.args.recce.now c.requires.read.is [] c.args.first.end c.args.first.origin c.requires.end c.deref-then-are_near.result.now c.deref-then-are_near-2.result.now tops c.args.w.now c.args.ranking (c.args.first ∷ []) (unasked_none c.args.w.now c.args.ranking c.args.recce.now (c.args.first ∷ []) c.args.first.end [] refl) told c.args.steps.now c.below.new.steps c.below.result c.below.ensures.below c.below.ensures.counted c.below.ensures.err

pub returns-clause-counted : goal.returns-clause-counted
returns-clause-counted g c =
    subst (λ (l : List NodeKey). RisesWithin (IsBelowAsked c.args.w.now c.args.ranking c.args.recce.now l c.args.first.end c.args.first.origin) c.args.steps.now c.list_needed.new.steps) c.in_ok-keep_one.ensures c.list_needed.ensures.counted
