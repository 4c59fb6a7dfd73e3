use Rattle.std.proofs.Common.{◌≡◌, ◌∙◌, ◌≤◌, Some, length, sym, ap, refl, subst, arith}
use Rattle.std.proofs.lemmas.Option.{slice_get_within}
use Rattle.finite_sets.proofs.Lists.{got_item, got_at}
use Rattle.recognizer_model.specs.declared.Item.{Item}
use Rattle.recognizer_model.specs.Flat.{FlatGrammar, lhs_of, rhs_of}
use Rattle.recognizer_model.specs.Items.{InSet, advanced}
use Rattle.recognizer_model.proofs.Leo.{origin_below}
use Rattle.leo_items.specs.Closed.{Adds}
use Rattle.leo_items.proofs.Adding.{adds_key}
use Rattle.earley_sets.specs.Recognizer.{edges_of, top_of}
use Rattle.earley_sets.proofs.Membership.{found_at}
use Rattle.forest_parts.specs.Unasked.{IsAwaiting}
use Rattle.forest_parts.proofs.Gathering.{ByFirst}
use Rattle.forest_parts.proofs.Sets.{at_top, goes, kept_inside, found_item}
use Rattle.forest_parts.proofs.Taking.{takes_none, takes_more, takes_of}
use Rattle.forest_parts.proofs.unasked.put_awaiting.Goals as goal

pub loop-k-init : goal.loop-k-init
loop-k-init c = takes_none c.args.recce.now (ByFirst (λ (w x : Item). x ≡ advanced w) c.waiting-waiting.result 0) c.args.items.now.keys (λ x (i, y, lt, is, rel). absurd (omega arith))

pub advanced-requires : goal.advanced-requires
advanced-requires c =
    let (kept, waits) = (c.waiting-waiting.ensures.exact c.at.result).0 (got_item c.waiting-waiting.result c.loop-k.k c.at.result (sym c.at.ensures)) in
    let inside = kept_inside c.args.recce.now c.requires.is c.args.item.origin c.at.result c.requires.origin kept in
    let is_rule = (found_item c.args.recce.now c.requires.is c.args.item.origin c.at.result inside).is_rule in
    let lt = slice_get_within (rhs_of c.args.recce.now.flat c.at.result.rule) c.at.result.dot c.lhs.result waits in
    let short = c.requires.is.flat.in_range.short c.at.result.rule is_rule in
    omega arith

pub loop-k-preserved : goal.loop-k-preserved
loop-k-preserved c =
    let (kept, waits) = (c.waiting-waiting.ensures.exact c.at.result).0 (got_item c.waiting-waiting.result c.loop-k.k c.at.result (sym c.at.ensures)) in
    let inside : InSet c.args.recce.now.flat (edges_of c.args.recce.now) (top_of c.args.recce.now) c.args.item.origin c.at.result = kept_inside c.args.recce.now c.requires.is c.args.item.origin c.at.result c.requires.origin kept in
    let low = origin_below c.args.recce.now.flat (edges_of c.args.recce.now) (top_of c.args.recce.now) (at_top c.args.recce.now c.requires.is) (goes c.args.recce.now c.requires.is) inside in
    let within = c.requires.origin in
    takes_more c.args.recce.now (λ (w x : Item). x ≡ advanced w) c.waiting-waiting.result c.loop-k.k c.args.items.now.keys c.loop-k.items.keys c.insert.new.self.keys c.at.result (advanced c.at.result) c.loop-k.invariant c.at.ensures
    (subst (λ (z : Item). Adds c.loop-k.items.keys c.insert.new.self.keys z) c.advanced.ensures (adds_key c.loop-k.items.keys c.insert.new.self.keys _ c.in_ok-insert.ensures.keys)) refl (λ x e. e)
    (record { is_rule = (found_item c.args.recce.now c.requires.is c.args.item.origin c.at.result inside).is_rule; within = (let lt = slice_get_within (rhs_of c.args.recce.now.flat c.at.result.rule) c.at.result.dot c.lhs.result waits in omega arith) }, omega arith)

pub returns : goal.returns
returns c =
    let le : length c.waiting-waiting.result ≤ c.loop-k.k = subst (λ n. n ≤ c.loop-k.k) c.len-k-end.ensures c.loop-k-test.false in
    takes_of c.args.recce.now (ByFirst (λ (w x : Item). x ≡ advanced w) c.waiting-waiting.result c.loop-k.k) (IsAwaiting c.args.recce.now c.args.item) c.args.items.now.keys c.loop-k.items.keys
    (λ x (w, kept, waits, e). (let (i, at) = found_at c.waiting-waiting.result w ((c.waiting-waiting.ensures.exact w).1 (kept, waits ∙ ap Some (sym (c.lhs.ensures ∙ ap (λ (g : FlatGrammar). lhs_of g c.args.item.rule) c.flat-flat.ensures)))) in
    let (lt, same) = got_at c.waiting-waiting.result i w w (sym at) in
    (i, w, omega arith, at, e)))
    (λ x (i, w, lt, at, e).
    (let (kept, waits) = (c.waiting-waiting.ensures.exact w).0 (got_item c.waiting-waiting.result i w (sym at)) in
    (w, kept, waits ∙ ap Some (c.lhs.ensures ∙ ap (λ (g : FlatGrammar). lhs_of g c.args.item.rule) c.flat-flat.ensures), e)))
    c.loop-k.invariant
