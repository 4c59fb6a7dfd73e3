use Rattle.std.proofs.Common.{List, sym, subst}
use Rattle.recognizer_model.specs.declared.Item.{Item}
use Rattle.forest_parts.specs.Needed.{AreTops}
use Rattle.forest_parts.proofs.Tops.{top_bottom, bottoms_are}
use Rattle.forest_parts.proofs.Rest.{rest_hidden, rest_all, rest_counted}
use Rattle.forest_parts.proofs.needed.list_rest.Goals as goal

pub below-requires-clause-bottoms : goal.below-requires-clause-bottoms
below-requires-clause-bottoms g c =
    let tops = subst (λ (l : List Item). AreTops c.args.recce.now c.put_all.new.set.keys c.args.end c.args.least l c.deref-2.result.now) (sym c.deref.ensures.value)
    (subst (λ (l : List Item). AreTops c.args.recce.now c.put_all.new.set.keys c.args.end c.args.least c.list_tops.new.tops.items l) (sym c.deref-2.ensures.value) c.in_ok-list_tops.ensures) in
    bottoms_are c.args.recce.now c.requires.is c.put_all.new.set.keys c.args.end c.args.least c.requires.end c.deref.result.now c.deref-2.result.now tops

pub below-requires-clause-tops : goal.below-requires-clause-tops
below-requires-clause-tops g c =
    let tops = subst (λ (l : List Item). AreTops c.args.recce.now c.put_all.new.set.keys c.args.end c.args.least l c.deref-2.result.now) (sym c.deref.ensures.value)
    (subst (λ (l : List Item). AreTops c.args.recce.now c.put_all.new.set.keys c.args.end c.args.least c.list_tops.new.tops.items l) (sym c.deref-2.ensures.value) c.in_ok-list_tops.ensures) in
    top_bottom c.args.recce.now c.requires.is c.put_all.new.set.keys c.args.end c.args.least c.requires.end c.deref.result.now c.deref-2.result.now tops

pub returns-clause-hidden : goal.returns-clause-hidden
returns-clause-hidden g c =
    let tops = subst (λ (l : List Item). AreTops c.args.recce.now c.put_all.new.set.keys c.args.end c.args.least l c.deref-2.result.now) (sym c.deref.ensures.value)
    (subst (λ (l : List Item). AreTops c.args.recce.now c.put_all.new.set.keys c.args.end c.args.least c.list_tops.new.tops.items l) (sym c.deref-2.ensures.value) c.in_ok-list_tops.ensures) in
    rest_hidden c.args.recce.now c.requires.is c.args.end c.args.least c.requires.end c.put_all.new.set.keys c.deref.result.now c.deref-2.result.now tops c.args.w.now c.args.ranking c.args.keys.now.keys c.in_ok-left_out.left_out.keys c.in_ok-left_out.ensures.unasked c.in_ok-left_out.ensures.asked
    c.args.here.now.tops.now c.args.here.now.items.now c.in_ok-put_all.ensures c.requires.here c.in_ok-items.items.items c.in_ok-items.ensures.below c.put_all_late.new.items.items c.in_ok-put_all_late.ensures

pub returns-clause-all : goal.returns-clause-all
returns-clause-all g c =
    let tops = subst (λ (l : List Item). AreTops c.args.recce.now c.put_all.new.set.keys c.args.end c.args.least l c.deref-2.result.now) (sym c.deref.ensures.value)
    (subst (λ (l : List Item). AreTops c.args.recce.now c.put_all.new.set.keys c.args.end c.args.least c.list_tops.new.tops.items l) (sym c.deref-2.ensures.value) c.in_ok-list_tops.ensures) in
    rest_all c.args.recce.now c.requires.is c.args.end c.args.least c.requires.end c.put_all.new.set.keys c.deref.result.now c.deref-2.result.now tops c.args.w.now c.args.ranking c.args.keys.now.keys c.in_ok-left_out.left_out.keys c.in_ok-left_out.ensures.unasked c.in_ok-left_out.ensures.asked
    c.args.here.now.tops.now c.args.here.now.items.now c.in_ok-put_all.ensures c.requires.here c.in_ok-items.items.items c.in_ok-items.ensures.below c.put_all_late.new.items.items c.in_ok-put_all_late.ensures

pub returns-clause-counted : goal.returns-clause-counted
returns-clause-counted g c =
    let tops = subst (λ (l : List Item). AreTops c.args.recce.now c.put_all.new.set.keys c.args.end c.args.least l c.deref-2.result.now) (sym c.deref.ensures.value)
    (subst (λ (l : List Item). AreTops c.args.recce.now c.put_all.new.set.keys c.args.end c.args.least c.list_tops.new.tops.items l) (sym c.deref-2.ensures.value) c.in_ok-list_tops.ensures) in
    rest_counted c.args.recce.now c.requires.is c.args.end c.args.least c.requires.end c.put_all.new.set.keys c.deref.result.now c.deref-2.result.now tops c.args.w.now c.args.ranking c.args.keys.now.keys c.in_ok-left_out.left_out.keys c.in_ok-left_out.ensures.unasked c.in_ok-left_out.ensures.asked
    c.args.here.now.tops.now c.args.here.now.items.now c.in_ok-put_all.ensures c.requires.here c.args.steps.now c.below.new.steps c.below.result c.below.ensures.below c.below.ensures.counted c.below.ensures.err

pub returns-in_err-items-clause-counted : goal.returns-in_err-items-clause-counted
returns-in_err-items-clause-counted g c =
    let tops = subst (λ (l : List Item). AreTops c.args.recce.now c.put_all.new.set.keys c.args.end c.args.least l c.deref-2.result.now) (sym c.deref.ensures.value)
    (subst (λ (l : List Item). AreTops c.args.recce.now c.put_all.new.set.keys c.args.end c.args.least c.list_tops.new.tops.items l) (sym c.deref-2.ensures.value) c.in_ok-list_tops.ensures) in
    rest_counted c.args.recce.now c.requires.is c.args.end c.args.least c.requires.end c.put_all.new.set.keys c.deref.result.now c.deref-2.result.now tops c.args.w.now c.args.ranking c.args.keys.now.keys c.in_ok-left_out.left_out.keys c.in_ok-left_out.ensures.unasked c.in_ok-left_out.ensures.asked
    c.args.here.now.tops.now c.args.here.now.items.now c.in_ok-put_all.ensures c.requires.here c.args.steps.now c.below.new.steps c.below.result c.below.ensures.below c.below.ensures.counted c.below.ensures.err

pub returns-in_err-put_all_late-clause-counted : goal.returns-in_err-put_all_late-clause-counted
returns-in_err-put_all_late-clause-counted g c =
    let tops = subst (λ (l : List Item). AreTops c.args.recce.now c.put_all.new.set.keys c.args.end c.args.least l c.deref-2.result.now) (sym c.deref.ensures.value)
    (subst (λ (l : List Item). AreTops c.args.recce.now c.put_all.new.set.keys c.args.end c.args.least c.list_tops.new.tops.items l) (sym c.deref-2.ensures.value) c.in_ok-list_tops.ensures) in
    rest_counted c.args.recce.now c.requires.is c.args.end c.args.least c.requires.end c.put_all.new.set.keys c.deref.result.now c.deref-2.result.now tops c.args.w.now c.args.ranking c.args.keys.now.keys c.in_ok-left_out.left_out.keys c.in_ok-left_out.ensures.unasked c.in_ok-left_out.ensures.asked
    c.args.here.now.tops.now c.args.here.now.items.now c.in_ok-put_all.ensures c.requires.here c.args.steps.now c.below.new.steps c.below.result c.below.ensures.below c.below.ensures.counted c.below.ensures.err
