use Rattle.std.proofs.Common.{arith}
use Rattle.std.proofs.lemmas.List.Filters.{dedup_is}
use Rattle.std.proofs.lemmas.List.Kept.{AllPairs-from_increasing, Contains-dedup_nat, Contains-from_dedup}
use Rattle.std.proofs.lemmas.List.Sorted.{Contains-permutation, IsPermutation-sym}
use Rattle.std.proofs.lemmas.Map.Keys.{IsStrictlyIncreasing-dedup}
use Rattle.begun_lists.proofs.awaited.sort.Goals as goal

pub returns-clause-once : goal.returns-clause-once
returns-clause-once c =
    let is = dedup_is _ _ _ c.dedup.ensures.filtered in
    let rises = AllPairs-from_increasing _ (rw is (IsStrictlyIncreasing-dedup _ c.sort_unstable.ensures.sorted)) in
    λ i j d lt below e. (let low = rises i j d lt below in omega (arith, low, e))

pub returns-clause-same : goal.returns-clause-same
returns-clause-same c x =
    let is = dedup_is _ _ _ c.dedup.ensures.filtered in
    let moved = c.sort_unstable.ensures.permutation in (
      λ h. Contains-permutation _ _ x (IsPermutation-sym _ _ moved) (Contains-from_dedup _ _ x (rw is at h)),
      λ h. rw is (Contains-dedup_nat _ x (Contains-permutation _ _ x moved h)),
    )
