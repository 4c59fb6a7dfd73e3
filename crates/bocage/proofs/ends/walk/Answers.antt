use Rattle.std.proofs.Common.{◌≡◌, ◌≤◌, ◌-◌, ◌+◌, ℕ, suc, List, length, map, sym, ap, subst, arith}
use Rattle.recognizer_model.specs.declared.NodeKey.{NodeKey}
use Rattle.bocage.specs.Walk.{IsUsedIn}
use Rattle.forest_parts.specs.Hidden.{RisesWithin}
use Rattle.bocage.specs.Ends.{IsGoing, AreVisited}
use Rattle.bocage.specs.Given.{IsGivenAfter, IsAfterFrom}
use Rattle.bocage.proofs.Expanding.{within_first, within_more, within_all}
use Rattle.bocage.proofs.Growing.{grows_then}
use Rattle.forest_parts.proofs.Chained.{none_chained}
use Rattle.bocage.proofs.Visiting.{going_first, going_next}
use Rattle.std.proofs.lemmas.Result.{IfOk-from_err}
use Rattle.bocage.proofs.ends.walk.Goals as goal

pub visit_end-requires-clause-going : goal.visit_end-requires-clause-going
visit_end-requires-clause-going g c =
    subst (λ p. IsGoing c.args.w.now c.args.ranking c.args.recce.now p 0 c.args.found.now (map (λ r. r.now) c.new-table.result.items)) (sym c.place-earleme.ensures.place)
    (going_first c.args.w.now c.args.ranking c.args.recce.now c.args.found.now (map (λ r. r.now) c.new-table.result.items) c.requires.used c.requires.top)

pub loop-back-init : goal.loop-back-init
loop-back-init g c =
    let e : c.place-earleme.result ≡ c.place-earleme.result - 0 = omega arith in
    record {
      visited = subst (λ p. AreVisited c.args.w.now c.args.ranking c.args.recce.now p c.visit_end.new.found (map (λ r. r.now) c.visit_end.new.table.items)) e c.in_ok-visit_end.ensures.visited;
      chained = c.in_ok-visit_end.ensures.chained;
      grows = c.in_ok-visit_end.ensures.grows;
      counted = subst (λ p. RisesWithin (IsAfterFrom c.args.w.now c.args.ranking c.args.recce.now c.args.given.now p) c.args.steps.now c.visit_end.new.steps) e (within_first (IsGivenAfter c.args.w.now c.args.ranking c.args.recce.now c.args.given.now) c.place-earleme.result c.args.steps.now c.visit_end.new.steps c.in_ok-visit_end.ensures.counted);
    }

pub visit_end-requires-in-loop-back-clause-going : goal.visit_end-requires-in-loop-back-clause-going
visit_end-requires-in-loop-back-clause-going g c =
    let t = c.loop-back-test.true in
    let e : c.place-earleme.result - c.loop-back.back ≡ suc (c.place-earleme.result - 1 - c.loop-back.back) = omega arith in
    subst (λ (l : List NodeKey). IsGoing c.args.w.now c.args.ranking c.args.recce.now (c.place-earleme.result - 1 - c.loop-back.back) (length l) c.loop-back.found (map (λ r. r.now) c.loop-back.table.items)) (sym c.as_slice-first.ensures.keys)
    (going_next c.args.w.now c.args.ranking c.args.recce.now (c.place-earleme.result - 1 - c.loop-back.back) c.loop-back.found (map (λ r. r.now) c.loop-back.table.items)
    (subst (λ p. AreVisited c.args.w.now c.args.ranking c.args.recce.now p c.loop-back.found (map (λ r. r.now) c.loop-back.table.items)) e c.loop-back.invariant.visited))

pub loop-back-preserved : goal.loop-back-preserved
loop-back-preserved g c =
    let t = c.loop-back-test.true in
    let e : c.place-earleme.result - 1 - c.loop-back.back ≡ c.place-earleme.result - (c.loop-back.back + 1) = omega arith in
    let q : c.place-earleme.result - c.loop-back.back ≡ suc (c.place-earleme.result - 1 - c.loop-back.back) = omega arith in
    let end = c.place-earleme.result - 1 - c.loop-back.back in
    record {
      visited = subst (λ p. AreVisited c.args.w.now c.args.ranking c.args.recce.now p c.visit_end-in-loop-back.new.found (map (λ r. r.now) c.visit_end-in-loop-back.new.table.items)) e c.in_ok-visit_end-2.ensures.visited;
      chained = c.in_ok-visit_end-2.ensures.chained;
      grows = grows_then (IsUsedIn c.args.w.now c.args.ranking c.args.recce.now) c.args.found.now.keys.keys c.loop-back.found.keys.keys c.visit_end-in-loop-back.new.found.keys.keys c.loop-back.invariant.grows c.in_ok-visit_end-2.ensures.grows;
      counted = subst (λ p. RisesWithin (IsAfterFrom c.args.w.now c.args.ranking c.args.recce.now c.args.given.now p) c.args.steps.now c.visit_end-in-loop-back.new.steps) e (within_more (IsGivenAfter c.args.w.now c.args.ranking c.args.recce.now c.args.given.now) end c.args.steps.now c.loop-back.steps c.visit_end-in-loop-back.new.steps (subst (λ p. RisesWithin (IsAfterFrom c.args.w.now c.args.ranking c.args.recce.now c.args.given.now p) c.args.steps.now c.loop-back.steps) q c.loop-back.invariant.counted) c.in_ok-visit_end-2.ensures.counted);
    }

pub returns-clause-visited : goal.returns-clause-visited
returns-clause-visited g c =
    let f = c.loop-back-test.false in
    let e : c.place-earleme.result - c.loop-back.back ≡ 0 = omega arith in
    subst (λ p. AreVisited c.args.w.now c.args.ranking c.args.recce.now p c.loop-back.found (map (λ r. r.now) c.loop-back.table.items)) e c.loop-back.invariant.visited

pub returns-clause-counted : goal.returns-clause-counted
returns-clause-counted g c = within_all (IsGivenAfter c.args.w.now c.args.ranking c.args.recce.now c.args.given.now) (c.place-earleme.result - c.loop-back.back) c.args.steps.now c.loop-back.steps c.loop-back.invariant.counted

pub returns-in_err-visit_end-clause-counted : goal.returns-in_err-visit_end-clause-counted
returns-in_err-visit_end-clause-counted g c =
    within_all (IsGivenAfter c.args.w.now c.args.ranking c.args.recce.now c.args.given.now) c.place-earleme.result c.args.steps.now c.visit_end.new.steps
    (within_first (IsGivenAfter c.args.w.now c.args.ranking c.args.recce.now c.args.given.now) c.place-earleme.result c.args.steps.now c.visit_end.new.steps c.in_err-visit_end.ensures.counted)

pub returns-in_err-visit_end-2-clause-counted : goal.returns-in_err-visit_end-2-clause-counted
returns-in_err-visit_end-2-clause-counted g c =
    let t = c.loop-back-test.true in
    let q : c.place-earleme.result - c.loop-back.back ≡ suc (c.place-earleme.result - 1 - c.loop-back.back) = omega arith in
    let end = c.place-earleme.result - 1 - c.loop-back.back in
    within_all (IsGivenAfter c.args.w.now c.args.ranking c.args.recce.now c.args.given.now) end c.args.steps.now c.visit_end-in-loop-back.new.steps
    (within_more (IsGivenAfter c.args.w.now c.args.ranking c.args.recce.now c.args.given.now) end c.args.steps.now c.loop-back.steps c.visit_end-in-loop-back.new.steps (subst (λ p. RisesWithin (IsAfterFrom c.args.w.now c.args.ranking c.args.recce.now c.args.given.now p) c.args.steps.now c.loop-back.steps) q c.loop-back.invariant.counted) c.in_err-visit_end-2.ensures.counted)

pub visit_end-requires-clause-few : goal.visit_end-requires-clause-few
visit_end-requires-clause-few g c = let e = ap (λ (l : List ℕ). length l) c.requires.below in omega arith

pub visit_end-requires-clause-chained : goal.visit_end-requires-clause-chained
visit_end-requires-clause-chained g c = none_chained c.args.found.now.keys.keys c.args.work.now.chains.heads.items c.args.work.now.chains.below.items c.requires.heads c.requires.below

pub visit_end-requires-in-loop-back-clause-few : goal.visit_end-requires-in-loop-back-clause-few
visit_end-requires-in-loop-back-clause-few g c = subst (λ (l : List NodeKey). length c.loop-back.work.chains.below.items ≤ length l) (sym c.as_slice-first.ensures.keys) c.loop-back.invariant.chained.few

pub visit_end-requires-in-loop-back-clause-chained : goal.visit_end-requires-in-loop-back-clause-chained
visit_end-requires-in-loop-back-clause-chained g c = c.loop-back.invariant.chained

pub returns-in_err-visit_end-clause-visited : goal.returns-in_err-visit_end-clause-visited
returns-in_err-visit_end-clause-visited g c = IfOk-from_err _ _ c.from_residual.ensures.0

pub returns-in_err-visit_end-2-clause-visited : goal.returns-in_err-visit_end-2-clause-visited
returns-in_err-visit_end-2-clause-visited g c = IfOk-from_err _ _ c.from_residual-in_err-visit_end-2.ensures.0

pub returns-in_err-visit_end-clause-grows : goal.returns-in_err-visit_end-clause-grows
returns-in_err-visit_end-clause-grows g c = IfOk-from_err _ _ c.from_residual.ensures.0

pub returns-in_err-visit_end-2-clause-grows : goal.returns-in_err-visit_end-2-clause-grows
returns-in_err-visit_end-2-clause-grows g c = IfOk-from_err _ _ c.from_residual-in_err-visit_end-2.ensures.0

pub returns-clause-grows : goal.returns-clause-grows
returns-clause-grows g c = c.loop-back.invariant.grows
