use Rattle.std.proofs.Common.{rules, ◌≡◌, ◌∙◌, ◌++◌, inr, List, Contains, take, refl, sym, ap, subst, append_assoc}
use Rattle.finite_sets.proofs.Lists.{got_item}
use Rattle.recognizer_model.specs.declared.Item.{Item}
use Rattle.leo_items.specs.Closed.{Adds}
use Rattle.leo_items.proofs.Adding.{adds_key, tells_there}
use Rattle.leo_items.proofs.Growing.{Adds-begins, Adds-has}
use Rattle.leo_items.proofs.Loops.{got_none}
use Rattle.forest_parts.specs.Unasked.{IsAskedFor, Met, Tells}
use Rattle.forest_parts.proofs.Taking.{AreUnaskedTo, unasked_begun, unasked_more, unasked_done, take_left, kept, back_begun, back_more, back_asked, tells_unasked, tells_asked}
use Rattle.forest_parts.proofs.unasked.note_unasked.Goals.{then-is_met-via-then-is_met, then-is_met-via-else-is_met+then-contains}
use Rattle.forest_parts.proofs.unasked.note_unasked.Goals as goal

pub loop-k-init : goal.loop-k-init
loop-k-init c =
    let adds = adds_key c.args.unasked.now.keys c.insert.new.self.keys c.args.item c.in_ok-insert.ensures.keys in
    let begun = subst (λ n. AreUnaskedTo c.args.w.now c.args.ranking c.args.recce.now c.args.keys.now.keys c.args.end c.insert.new.self.keys n) (sym c.len-first.ensures.len)
    (unasked_begun c.args.w.now c.args.ranking c.args.recce.now c.args.keys.now.keys c.args.end c.args.unasked.now.keys c.insert.new.self.keys c.args.item c.requires.parted.are_unasked adds (c.requires.item, c.requires.origin)) in
    record {
      few = begun.within;
      begins = Adds-begins c.args.unasked.now.keys c.insert.new.self.keys c.args.item adds;
      there = (Adds-has c.args.unasked.now.keys c.insert.new.self.keys c.args.item c.args.item adds).1 (inr refl);
      upto = begun;
      same = refl;
      back = back_begun c.args.w.now c.args.ranking c.args.recce.now c.args.keys.now.keys c.args.end c.args.unasked.now.keys c.insert.new.self.keys c.args.item adds;
    }

pub returns-in_default : goal.returns-in_default
returns-in_default c =
    subst (λ (l : List Item). Tells c.args.w.now c.args.ranking c.args.recce.now c.args.keys.now.keys c.args.end (λ x. x ≡ c.args.item) c.args.unasked.now.keys c.args.asked.now.keys c.loop-k.unasked.keys l) (sym c.loop-k.invariant.same)
    (tells_unasked c.args.w.now c.args.ranking c.args.recce.now c.args.keys.now.keys c.args.end c.args.unasked.now.keys c.loop-k.unasked.keys c.args.asked.now.keys c.args.item c.requires.parted
    (kept c.args.recce.now c.args.unasked.now.keys c.loop-k.unasked.keys c.loop-k.invariant.begins)
    (unasked_done c.args.w.now c.args.ranking c.args.recce.now c.args.keys.now.keys c.args.end c.loop-k.unasked.keys c.loop-k.k c.loop-k.invariant.upto (got_none c.loop-k.unasked.keys c.loop-k.k (c.in_default.ensures ∙ c.get_index.ensures.key)))
    c.loop-k.invariant.there)

pub returns-then-is_met : goal.returns-then-is_met
returns-then-is_met c =
    let (more, e) = c.loop-k.invariant.begins in
    let back : c.truncate.new.self.keys ≡ c.args.unasked.now.keys =
    c.truncate.ensures.keys ∙ (ap (λ (l : List Item). take c.len-first.result l) e ∙ (ap (λ n. take n (c.args.unasked.now.keys ++ more)) c.len-first.ensures.len ∙ take_left c.args.unasked.now.keys more)) in
    let there = got_item c.loop-k.unasked.keys c.loop-k.k c.in-Some.next (c.in-Some.ensures ∙ c.get_index.ensures.key) in
    let asked : IsAskedFor c.args.w.now c.args.ranking c.args.recce.now c.args.keys.now.keys c.args.end c.in-Some.next =
    elim c.then-is_met.branch [
      | then-is_met-via-then-is_met w ↦ Met (c.is_met.ensures.0 w.if-is_met.true)
      | then-is_met-via-else-is_met+then-contains w ↦
          let tells = tells_there c.loop-k.asked.keys c.in-Some.next w.contains.result w.contains.ensures in
          c.requires.parted.are_asked c.in-Some.next (subst (λ (l : List Item). Contains l c.in-Some.next) c.loop-k.invariant.same (tells.0 w.if-contains.true))
    ] in
    subst (λ (l : List Item). Tells c.args.w.now c.args.ranking c.args.recce.now c.args.keys.now.keys c.args.end (λ x. x ≡ c.args.item) c.args.unasked.now.keys c.args.asked.now.keys l c.insert-then-is_met.new.self.keys) (sym back)
    (tells_asked c.args.w.now c.args.ranking c.args.recce.now c.args.keys.now.keys c.args.end c.args.unasked.now.keys c.args.asked.now.keys c.insert-then-is_met.new.self.keys c.args.item c.requires.parted
    (subst (λ (l : List Item). Adds l c.insert-then-is_met.new.self.keys c.args.item) c.loop-k.invariant.same (adds_key c.loop-k.asked.keys c.insert-then-is_met.new.self.keys c.args.item c.in_ok-insert-2.ensures.keys))
    (back_asked c.args.w.now c.args.ranking c.args.recce.now c.args.keys.now.keys c.args.end c.args.unasked.now.keys c.loop-k.unasked.keys c.args.item c.in-Some.next c.requires.parted.are_unasked c.loop-k.invariant.back there asked))

pub put_above-requires-clause-item : goal.put_above-requires-clause-item
put_above-requires-clause-item c = (c.loop-k.invariant.upto.placed c.in-Some.next (got_item c.loop-k.unasked.keys c.loop-k.k c.in-Some.next (c.in-Some.ensures ∙ c.get_index.ensures.key))).0

pub put_above-requires-clause-origin : goal.put_above-requires-clause-origin
put_above-requires-clause-origin c = (c.loop-k.invariant.upto.placed c.in-Some.next (got_item c.loop-k.unasked.keys c.loop-k.k c.in-Some.next (c.in-Some.ensures ∙ c.get_index.ensures.key))).1

pub loop-k-preserved : goal.loop-k-preserved
loop-k-preserved c =
    let (more, e) = c.loop-k.invariant.begins in
    let (more', e') = c.in_ok-put_above.ensures.begins in
    let next = unasked_more c.args.w.now c.args.ranking c.args.recce.now c.args.keys.now.keys c.args.end c.loop-k.unasked.keys c.put_above.new.items.keys c.loop-k.k c.in-Some.next c.loop-k.invariant.upto (sym (c.in-Some.ensures ∙ c.get_index.ensures.key))
    (λ h. (let t = c.is_met.ensures.1 h in absurd (search rules))) c.in_ok-put_above.ensures in
    record {
      few = next.within;
      begins = (more ++ more', e' ∙ (ap (λ (l : List Item). l ++ more') e ∙ append_assoc c.args.unasked.now.keys more more'));
      there = kept c.args.recce.now c.loop-k.unasked.keys c.put_above.new.items.keys c.in_ok-put_above.ensures.begins c.args.item c.loop-k.invariant.there;
      upto = next;
      same = c.loop-k.invariant.same;
      back = back_more c.args.w.now c.args.ranking c.args.recce.now c.args.keys.now.keys c.args.end c.args.unasked.now.keys c.loop-k.unasked.keys c.put_above.new.items.keys c.args.item c.in-Some.next c.requires.parted.are_unasked c.loop-k.invariant.back
          (got_item c.loop-k.unasked.keys c.loop-k.k c.in-Some.next (c.in-Some.ensures ∙ c.get_index.ensures.key)) c.in_ok-put_above.ensures;
    }
