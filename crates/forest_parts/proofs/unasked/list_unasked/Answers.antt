use Rattle.std.proofs.Common.{inl, inr, subst, Contains}
use Rattle.finite_sets.proofs.Lists.{Contains-none}
use Rattle.forest_parts.proofs.Taking.{unasked_none}
use Rattle.forest_parts.proofs.unasked.list_unasked.Goals as goal

pub look_at_tops-requires-clause-parted : goal.look_at_tops-requires-clause-parted
look_at_tops-requires-clause-parted c = record {
  are_unasked = unasked_none c.args.w.now c.args.ranking c.args.recce.now c.args.keys.now.keys c.args.end _ c.with_hasher-unasked.ensures.empty;
  are_asked = λ x h. absurd (Contains-none x (subst (λ l. Contains l x) c.with_hasher-asked.ensures.empty h));
}

pub returns-clause-unasked : goal.returns-clause-unasked
returns-clause-unasked c = c.in_ok-look_at_tops.ensures.parted.are_unasked

pub returns-clause-asked : goal.returns-clause-asked
returns-clause-asked c top is = elim (c.in_ok-look_at_tops.ensures.tells top is) [ inl u ↦ inl u | inr a ↦ inr (c.in_ok-look_at_tops.ensures.parted.are_asked top a) ]
