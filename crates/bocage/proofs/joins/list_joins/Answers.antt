use Rattle.std.proofs.Common.{◌≡◌, ◌∙◌, ℕ, List, [], Some, inl, inr, get_or, slice_get, sym, subst, arith}
use Rattle.std.proofs.lemmas.List.Elements.{Contains-get_or}
use Rattle.std.proofs.lemmas.Option.{slice_get-get_or}
use Rattle.finite_sets.proofs.Lists.{Contains-none, got_at}
use Rattle.forest_parts.specs.declared.groups.Group.{Group}
use Rattle.forest_parts.proofs.Gathering.{Gains, ByBelow, gains_same, below_none, below_more}
use Rattle.bocage.specs.declared.joins.Join.{Join}
use Rattle.bocage.specs.Joins.{IsJoinOf}
use Rattle.bocage.proofs.Joining.{no_group}
use Rattle.bocage.proofs.joins.list_joins.Goals as goal

pub loop-k-init : goal.loop-k-init
loop-k-init c = subst (λ (l : List Join). Gains (ByBelow (λ (k : ℕ) (j : Join). (g : Group) × (slice_get c.args.groups.now k ≡ Some g) × (j.group ≡ k) × IsJoinOf c.args.recce.now c.args.least g j) 0) [] l) (sym c.clear.ensures.items) (below_none (λ (k : ℕ) (j : Join). (g : Group) × (slice_get c.args.groups.now k ≡ Some g) × (j.group ≡ k) × IsJoinOf c.args.recce.now c.args.least g j) [])

pub put_joins-requires : goal.put_joins-requires
put_joins-requires c = c.requires _ (Contains-get_or c.args.groups.now c.loop-k.k no_group c.loop-k-test.true)

pub loop-k-preserved : goal.loop-k-preserved
loop-k-preserved c =
    let at = slice_get-get_or c.args.groups.now c.loop-k.k no_group c.loop-k-test.true in
    below_more (λ (k : ℕ) (j : Join). (g : Group) × (slice_get c.args.groups.now k ≡ Some g) × (j.group ≡ k) × IsJoinOf c.args.recce.now c.args.least g j) c.loop-k.k [] c.loop-k.joins.items c.put_joins.new.joins.items c.loop-k.invariant
    (gains_same (λ (j : Join). (j.group ≡ c.in_ok-at.at) × IsJoinOf c.args.recce.now c.args.least (get_or c.args.groups.now c.loop-k.k no_group) j)
    (λ (j : Join). (g : Group) × (slice_get c.args.groups.now c.loop-k.k ≡ Some g) × (j.group ≡ c.loop-k.k) × IsJoinOf c.args.recce.now c.args.least g j) c.loop-k.joins.items c.put_joins.new.joins.items c.in_ok-put_joins.ensures
    (λ j. (
      λ (e, is). (get_or c.args.groups.now c.loop-k.k no_group, at, e ∙ c.in_ok-at.ensures.ok, is),
      λ (g, held, e, is). (
          let one : Some g ≡ Some (get_or c.args.groups.now c.loop-k.k no_group) = sym held ∙ at in
          let q : g ≡ get_or c.args.groups.now c.loop-k.k no_group = cc in
          (e ∙ sym c.in_ok-at.ensures.ok, subst (λ (z : Group). IsJoinOf c.args.recce.now c.args.least z j) q is)
          ),
    )))

pub returns : goal.returns
returns c = record {
  exact = λ j. (
    λ h. elim ((c.loop-k.invariant j).0 ((c.sort.ensures.same j).0 h)) [
      | inl n ↦ absurd (Contains-none j n)
      | inr (k, lt, (g, held, e, is)) ↦ (g, subst (λ z. slice_get c.args.groups.now z ≡ Some g) (sym e) held, is)
    ],
    λ (g, held, is). (
        let (lt, same) = got_at c.args.groups.now j.group g no_group (sym held) in
        let f = c.loop-k-test.false in
        (c.sort.ensures.same j).1 ((c.loop-k.invariant j).1 (inr (j.group, omega arith, (g, held, (λ i. j.group), is))))
        ),
  );
  sorted = c.sort.ensures.sorted;
}
