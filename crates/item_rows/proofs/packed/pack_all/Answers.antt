use Rattle.std.proofs.Common.{◌/◌, ◌<◌, inl, inr, List, ℕ, subst, length, Contains, arith, ◌∙◌}
use Rattle.std.proofs.lemmas.List.{take_all}
use Rattle.std.proofs.lemmas.List.Elements.{Contains-push_cases}
use Rattle.item_rows.proofs.Packing.{pack_more}
use Rattle.item_rows.proofs.packed.pack_all.Goals as goal

pub loop-item-preserved : goal.loop-item-preserved
loop-item-preserved c = record {
  items = pack_more c.args.dotted.now.rules c.args.items.now c.loop-item.packed.items c.push.new.self.items c.loop-item.item-index c.in-Some.number _ c.loop-item.invariant.items c.in_ok-push-in-Some.ensures.items c.in-Some.ensures.some.1 (omega arith);
  within = λ n h. elim (Contains-push_cases c.loop-item.packed.items c.in-Some.number n (subst (λ (l : List ℕ). Contains l n) c.in_ok-push-in-Some.ensures.items h)) [
    | inl o ↦ c.loop-item.invariant.within n o
    | inr same ↦ subst (λ z. z / 4294967296 < length c.args.dotted.now.rules) same c.in-Some.ensures.some.0
  ];
}

pub returns-clause-items : goal.returns-clause-items
returns-clause-items c = c.loop-item.invariant.items ∙ take_all c.loop-item.item-index c.args.items.now c.loop-item-test.false

pub returns-clause-within : goal.returns-clause-within
returns-clause-within c = c.loop-item.invariant.within
