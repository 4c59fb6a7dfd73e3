use Rattle.std.proofs.Common.{◌≤◌, inl, inr, length, sym, subst}
use Rattle.finite_sets.proofs.Lists.{got_item}
use Rattle.recognizer_model.specs.declared.Item.{Item}
use Rattle.forest_parts.specs.declared.parts.Part.{Part}
use Rattle.forest_parts.specs.Parts.{IsWholeOf}
use Rattle.forest_parts.proofs.Sets.{kept_inside, found_item}
use Rattle.forest_parts.proofs.Gathering.{first_none, first_more, first_all}
use Rattle.forest_parts.proofs.gather.put_kept.Goals as goal

pub loop-k-init : goal.loop-k-init
loop-k-init c = first_none (λ (item : Item) (p : Part). (c.args.least ≤ item.origin) × IsWholeOf c.args.w.now c.args.ranking c.args.recce.now.flat c.args.end item p) c.whole-set.result c.args.parts.now.items

pub put_whole-requires-clause-item : goal.put_whole-requires-clause-item
put_whole-requires-clause-item c =
    found_item c.args.recce.now c.requires.is c.args.end c.at.result (kept_inside c.args.recce.now c.requires.is c.args.end c.at.result c.requires.end
    ((c.whole-set.ensures.exact c.at.result).0 (got_item c.whole-set.result c.loop-k.k c.at.result (sym c.at.ensures))).0)

pub loop-k-preserved : goal.loop-k-preserved
loop-k-preserved c =
    first_more (λ (item : Item) (p : Part). (c.args.least ≤ item.origin) × IsWholeOf c.args.w.now c.args.ranking c.args.recce.now.flat c.args.end item p) c.whole-set.result c.loop-k.k c.args.parts.now.items c.loop-k.parts.items c.put_whole.new.parts.items c.at.result c.loop-k.invariant
    c.at.ensures c.in_ok-put_whole.ensures

pub returns : goal.returns
returns c p =
    let le : length c.whole-set.result ≤ c.loop-k.k = subst (λ n. n ≤ c.loop-k.k) c.len-k-end.ensures c.loop-k-test.false in
    let all = first_all (λ (item : Item) (p : Part). (c.args.least ≤ item.origin) × IsWholeOf c.args.w.now c.args.ranking c.args.recce.now.flat c.args.end item p) c.whole-set.result c.loop-k.k c.args.parts.now.items c.loop-k.parts.items c.loop-k.invariant le p in (
      λ h. elim (all.0 h) [ inl o ↦ inl o | inr (item, there, is) ↦ inr (item, ((c.whole-set.ensures.exact item).0 there).0, is) ],
      λ h. all.1 (elim h [ inl o ↦ inl o | inr (item, there, is) ↦ inr (item, (c.whole-set.ensures.exact item).1 (there, is.1.dot), is) ]),
    )
