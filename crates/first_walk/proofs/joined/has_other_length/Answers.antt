use Rattle.std.proofs.Common.{◌≡◌, Some, slice_get, inl, inr, refl, sym, ◌∙◌, ap, subst, arith}
use Rattle.std.proofs.lemmas.Bool.{cases_lt, false≢true}
use Rattle.std.proofs.lemmas.List.Elements.{Contains-get_or}
use Rattle.finite_sets.proofs.Lists.{got_at}
use Rattle.earley_sets.proofs.Membership.{found_at}
use Rattle.forest_parts.specs.Parts.{part_at}
use Rattle.first_walk.specs.declared.joined.Joined.{Joined}
use Rattle.first_walk.proofs.JoinedOrder.{no_joined}
use Rattle.first_walk.proofs.joined.has_other_length.Goals as goal

pub length_at-requires : goal.length_at-requires
length_at-requires c = c.requires.parts _ (Contains-get_or c.args.joined.now c.loop-k.k no_joined c.loop-k-test.true)

pub returns-then-length_at-length : goal.returns-then-length_at-length
returns-then-length_at-length c = (
  λ t. (_, Contains-get_or c.args.joined.now c.loop-k.k no_joined c.loop-k-test.true, λ e. c.if-length_at-length.true (c.length_at.ensures ∙ e ∙ sym c.length_at-length.ensures)),
  λ h. refl,
)

pub loop-k-preserved : goal.loop-k-preserved
loop-k-preserved c i j lt at = elim (cases_lt i c.loop-k.k) [
  | inl l ↦ c.loop-k.invariant i j l at
  | inr ge ↦
      let here : i ≡ c.loop-k.k = omega arith in
      let (below, e) = got_at c.args.joined.now c.loop-k.k j no_joined (sym (subst (λ z. slice_get c.args.joined.now z ≡ Some j) here at)) in
      ap (λ (z : Joined). (part_at c.args.parts.now z.part).length) (sym e) ∙ sym c.length_at.ensures ∙ c.if-length_at-length.false
]

pub returns : goal.returns
returns c = (
  λ t. absurd (false≢true t),
  λ (j, h, differs). (
      let (i, at) = found_at c.args.joined.now j h in
      let (below, e) = got_at c.args.joined.now i j no_joined (sym at) in
      let f = c.loop-k-test.false in
      absurd (differs (c.loop-k.invariant i j (omega arith) at ∙ c.length_at-length.ensures))
      ),
)
