use Rattle.std.proofs.Common.{◌≡◌, ℕ, List, Option, Some, slice_get, subst, arith}
use Rattle.forest_parts.proofs.Lowest.{count_next, count_all_places}
use Rattle.forest_parts.proofs.counts.count_all.Goals as goal

pub loop-end-preserved : goal.loop-end-preserved
loop-end-preserved g c =
    count_next c.args.recce.now c.args.keys.now c.loop-end.end c.loop-end.expanded c.count_at.new.expanded c.loop-end.invariant
    (c.in_ok-count_at.ensures c.args.keys.now (c.in_ok-least.ensures.least c.loop-end.end c.origin_at-from.result
    (subst (λ (l : List (Option ℕ)). slice_get l c.loop-end.end ≡ Some c.origin_at-from.result) c.deref.ensures.value c.origin_at-from.ensures)))

pub returns : goal.returns
returns g c =
    count_all_places c.args.recce.now c.args.keys.now c.loop-end.end c.loop-end.expanded
    (λ key h. (let le = c.requires.keys key h in let p = c.place.ensures.place in let f = c.loop-end-test.false in omega arith)) c.loop-end.invariant
