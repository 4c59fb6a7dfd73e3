use Rattle.std.proofs.Common.{◌≡◌, ℕ, ◌<◌, length, List, [], inl, inr, refl, sym, ◌∙◌, subst, arith}
use Rattle.std.proofs.lemmas.List.Elements.{Contains-get_or}
use Rattle.finite_sets.proofs.Lists.{Contains-none}
use Rattle.forest_parts.specs.Parts.{part_at, no_part}
use Rattle.forest_parts.proofs.Gathering.{Gains, ByBelow, gains_same, below_none, below_more}
use Rattle.first_walk.specs.declared.joined.Joined.{Joined}
use Rattle.first_walk.specs.Joined.{IsJoinedTo}
use Rattle.first_walk.proofs.joined.list_joined.Goals as goal

pub loop-k-init : goal.loop-k-init
loop-k-init c = subst (λ (l : List Joined). Gains (ByBelow (λ (k : ℕ) (j : Joined). (k < length c.args.parts.now) × (j.part ≡ k) × IsJoinedTo c.args.recce.now (part_at c.args.parts.now k) j) 0) [] l) (sym c.clear.ensures.items) (below_none (λ (k : ℕ) (j : Joined). (k < length c.args.parts.now) × (j.part ≡ k) × IsJoinedTo c.args.recce.now (part_at c.args.parts.now k) j) [])

pub put_joined-requires-clause-part : goal.put_joined-requires-clause-part
put_joined-requires-clause-part c = (c.requires _ (Contains-get_or c.args.parts.now c.loop-k.k no_part c.loop-k-test.true)).0

pub put_joined-requires-clause-end : goal.put_joined-requires-clause-end
put_joined-requires-clause-end c = (c.requires _ (Contains-get_or c.args.parts.now c.loop-k.k no_part c.loop-k-test.true)).1

pub loop-k-preserved : goal.loop-k-preserved
loop-k-preserved c =
    below_more (λ (k : ℕ) (j : Joined). (k < length c.args.parts.now) × (j.part ≡ k) × IsJoinedTo c.args.recce.now (part_at c.args.parts.now k) j) c.loop-k.k [] c.loop-k.joined.items c.put_joined.new.joined.items c.loop-k.invariant
    (gains_same (λ (j : Joined). (j.part ≡ c.in_ok-at.at) × IsJoinedTo c.args.recce.now (part_at c.args.parts.now c.loop-k.k) j)
    (λ (j : Joined). (c.loop-k.k < length c.args.parts.now) × (j.part ≡ c.loop-k.k) × IsJoinedTo c.args.recce.now (part_at c.args.parts.now c.loop-k.k) j) c.loop-k.joined.items c.put_joined.new.joined.items c.in_ok-put_joined.ensures
    (λ j. (
      λ (e, is). (c.loop-k-test.true, e ∙ c.in_ok-at.ensures.ok, is),
      λ (lt, e, is). (e ∙ sym c.in_ok-at.ensures.ok, is),
    )))

pub returns : goal.returns
returns c = record {
  exact = λ j. (
    λ h. elim ((c.loop-k.invariant j).0 ((c.in_ok-sort.ensures.same j).0 h)) [
      | inl n ↦ absurd (Contains-none j n)
      | inr (k, lt, (below, e, is)) ↦ (subst (λ z. z < length c.args.parts.now) (sym e) below, subst (λ z. IsJoinedTo c.args.recce.now (part_at c.args.parts.now z) j) (sym e) is)
    ],
    λ (lt, is). (
        let f = c.loop-k-test.false in
        (c.in_ok-sort.ensures.same j).1 ((c.loop-k.invariant j).1 (inr (j.part, omega arith, (lt, refl, is))))
        ),
  );
  sorted = c.in_ok-sort.ensures.sorted;
}
