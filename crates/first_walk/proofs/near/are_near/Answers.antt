use Rattle.std.proofs.Common.{◌≡◌, Some, inl, inr, slice_get, sym, subst, arith, ◌∷◌, []}
use Rattle.std.proofs.lemmas.Bool.{cases_lt}
use Rattle.std.proofs.lemmas.List.Elements.{Contains-get_or}
use Rattle.finite_sets.proofs.Lists.{got_at}
use Rattle.earley_sets.proofs.Membership.{found_at}
use Rattle.forest_parts.specs.Unasked.{IsAskedFor}
use Rattle.forest_parts.proofs.Gathering.{no_item}
use Rattle.forest_parts.proofs.Tops.{top_rule}
use Rattle.first_walk.proofs.NearTops.{top_last}
use Rattle.first_walk.proofs.near.are_near.Goals as goal

pub is_near-requires-clause-rule : goal.is_near-requires-clause-rule
is_near-requires-clause-rule c =
    let (item, up) = c.requires.tops _ (Contains-get_or c.args.tops.now c.loop-k.k no_item c.loop-k-test.true) in
    (top_rule c.args.recce.now c.requires.is c.args.first.end c.requires.end item _ up).0.is_rule

pub is_near-requires-clause-origin : goal.is_near-requires-clause-origin
is_near-requires-clause-origin c =
    let (item, up) = c.requires.tops _ (Contains-get_or c.args.tops.now c.loop-k.k no_item c.loop-k-test.true) in
    (top_rule c.args.recce.now c.requires.is c.args.first.end c.requires.end item _ up).1

pub is_near-requires-clause-last : goal.is_near-requires-clause-last
is_near-requires-clause-last c step =
    let (item, up) = c.requires.tops _ (Contains-get_or c.args.tops.now c.loop-k.k no_item c.loop-k-test.true) in
    top_last c.args.recce.now c.args.first.end item _ up step

pub loop-k-preserved : goal.loop-k-preserved
loop-k-preserved c w i top lt at = elim (cases_lt i c.loop-k.k) [
  | inl l ↦ c.loop-k.invariant w i top l at
  | inr ge ↦
      let here : i ≡ c.loop-k.k = omega arith in
      let (below, e) = got_at c.args.tops.now c.loop-k.k top no_item (sym (subst (λ z. slice_get c.args.tops.now z ≡ Some top) here at)) in
      subst (λ z. IsAskedFor w c.args.ranking c.args.recce.now (c.args.first ∷ []) c.args.first.end z) e (c.is_near.ensures c.if-not-is_near.false w)
]

pub returns : goal.returns
returns c t w top h =
    let (i, at) = found_at c.args.tops.now top h in
    let (below, e) = got_at c.args.tops.now i top no_item (sym at) in
    let f = c.loop-k-test.false in
    c.loop-k.invariant w i top (omega arith) at
