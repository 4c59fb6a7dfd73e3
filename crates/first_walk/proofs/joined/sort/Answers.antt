use Rattle.std.proofs.Common.{List, Contains, sym, subst}
use Rattle.std.specs.List.Sorted.{IsStrictlySortedBy}
use Rattle.std.proofs.lemmas.List.Filters.{dedup_is}
use Rattle.std.proofs.lemmas.List.Kept.{IsStrictlySortedBy-dedup, Contains-from_dedup, Contains-dedup}
use Rattle.std.proofs.lemmas.List.Sorted.{Contains-permutation, IsPermutation-sym}
use Rattle.first_walk.specs.declared.joined.Joined.{Joined}
use Rattle.first_walk.specs.Joined.{joined_cmp}
use Rattle.first_walk.proofs.JoinedOrder.{joined_total, same_joined, joined_ties, joined_equiv, joined_exact}
use Rattle.first_walk.proofs.joined.sort.Goals as goal

pub returns-clause-sorted : goal.returns-clause-sorted
returns-clause-sorted c =
    subst (λ (l : List Joined). IsStrictlySortedBy joined_cmp l) (sym (dedup_is same_joined c.sort.new.self.items c.dedup.new.self.items c.dedup.ensures.filtered)) (IsStrictlySortedBy-dedup joined_total joined_ties c.sort.new.self.items c.in_ok-sort.ensures.sorted)

pub returns-clause-same : goal.returns-clause-same
returns-clause-same c p =
    let is = dedup_is same_joined c.sort.new.self.items c.dedup.new.self.items c.dedup.ensures.filtered in (
      λ h. Contains-permutation c.sort.new.self.items c.args.joined.now.items p (IsPermutation-sym c.args.joined.now.items c.sort.new.self.items c.in_ok-sort.ensures.permutation) (Contains-from_dedup same_joined c.sort.new.self.items p (subst (λ (l : List Joined). Contains l p) is h)),
      λ h. subst (λ (l : List Joined). Contains l p) (sym is) (Contains-dedup joined_equiv joined_exact c.sort.new.self.items p (Contains-permutation c.args.joined.now.items c.sort.new.self.items p c.in_ok-sort.ensures.permutation h)),
    )
