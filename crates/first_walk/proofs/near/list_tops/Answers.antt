use Rattle.std.proofs.Common.{◌≡◌, ◌≤◌, inl, inr, [], List, length, sym, subst}
use Rattle.finite_sets.proofs.Lists.{Contains-none, got_item}
use Rattle.recognizer_model.specs.declared.Item.{Item}
use Rattle.forest_parts.proofs.Sets.{kept_inside, found_item}
use Rattle.forest_parts.proofs.Gathering.{Gains, ByFirst, first_none, first_more, first_all}
use Rattle.forest_parts.specs.Needed.{LeadsOver}
use Rattle.first_walk.proofs.near.list_tops.Goals as goal

pub loop-k-init : goal.loop-k-init
loop-k-init c = record {
  tops = subst (λ (l : List Item). Gains (ByFirst (λ (item x : Item). LeadsOver c.args.recce.now [] c.args.end c.args.least item x) c.whole-set.result 0) [] l) (sym c.clear.ensures.items)
      (first_none (λ (item x : Item). LeadsOver c.args.recce.now [] c.args.end c.args.least item x) c.whole-set.result []);
  bottoms = subst (λ (l : List Item). Gains (ByFirst (λ (item x : Item). (x ≡ item) × ((top : Item) × LeadsOver c.args.recce.now [] c.args.end c.args.least item top)) c.whole-set.result 0) [] l) (sym c.clear-2.ensures.items)
      (first_none (λ (item x : Item). (x ≡ item) × ((top : Item) × LeadsOver c.args.recce.now [] c.args.end c.args.least item top)) c.whole-set.result []);
}

pub put_top-requires-clause-rule : goal.put_top-requires-clause-rule
put_top-requires-clause-rule c =
    (found_item c.args.recce.now c.requires.is c.args.end c.at.result (kept_inside c.args.recce.now c.requires.is c.args.end c.at.result c.requires.end
    ((c.whole-set.ensures.exact c.at.result).0 (got_item c.whole-set.result c.loop-k.k c.at.result (sym c.at.ensures))).0)).is_rule

pub loop-k-preserved : goal.loop-k-preserved
loop-k-preserved c = record {
  tops = first_more (λ (item x : Item). LeadsOver c.args.recce.now [] c.args.end c.args.least item x) c.whole-set.result c.loop-k.k [] c.loop-k.tops.items c.put_top.new.tops.items c.at.result c.loop-k.invariant.tops c.at.ensures c.in_ok-put_top.ensures.tops;
  bottoms = first_more (λ (item x : Item). (x ≡ item) × ((top : Item) × LeadsOver c.args.recce.now [] c.args.end c.args.least item top)) c.whole-set.result c.loop-k.k [] c.loop-k.bottoms.items c.put_top.new.bottoms.items c.at.result
      c.loop-k.invariant.bottoms c.at.ensures c.in_ok-put_top.ensures.bottoms;
}

pub returns : goal.returns
returns c =
    let le : length c.whole-set.result ≤ c.loop-k.k = subst (λ n. n ≤ c.loop-k.k) c.len-k-end.ensures c.loop-k-test.false in
    let tops = first_all (λ (item x : Item). LeadsOver c.args.recce.now [] c.args.end c.args.least item x) c.whole-set.result c.loop-k.k [] c.loop-k.tops.items c.loop-k.invariant.tops le in
    let bottoms =
    first_all (λ (item x : Item). (x ≡ item) × ((top : Item) × LeadsOver c.args.recce.now [] c.args.end c.args.least item top)) c.whole-set.result c.loop-k.k [] c.loop-k.bottoms.items c.loop-k.invariant.bottoms le in
    record {
      tops = λ t. (
        λ h. elim ((tops t).0 h) [ inl n ↦ absurd (Contains-none t n) | inr (item, there, is) ↦ (item, (c.whole-set.ensures.exact item).0 there, is) ],
        λ (item, kept, is). (tops t).1 (inr (item, (c.whole-set.ensures.exact item).1 kept, is)),
      );
      bottoms = λ b. (
        λ h. elim ((bottoms b).0 h) [ inl n ↦ absurd (Contains-none b n) | inr (item, there, is) ↦ (item, (c.whole-set.ensures.exact item).0 there, is) ],
        λ (item, kept, is). (bottoms b).1 (inr (item, (c.whole-set.ensures.exact item).1 kept, is)),
      );
    }
