use Rattle.std.proofs.Common.{List, Contains, sym, subst}
use Rattle.std.specs.List.Sorted.{IsStrictlySortedBy}
use Rattle.std.proofs.lemmas.List.Filters.{dedup_is}
use Rattle.std.proofs.lemmas.List.Kept.{IsStrictlySortedBy-dedup, Contains-from_dedup, Contains-dedup}
use Rattle.std.proofs.lemmas.List.Sorted.{Contains-permutation, IsPermutation-sym}
use Rattle.bocage.specs.declared.joins.Join.{Join}
use Rattle.bocage.specs.Joins.{join_cmp}
use Rattle.bocage.proofs.JoinOrder.{join_total, same_join, join_ties, join_equiv, join_exact}
use Rattle.bocage.proofs.joins.sort.Goals as goal

pub returns-clause-sorted : goal.returns-clause-sorted
returns-clause-sorted c =
    subst (λ (l : List Join). IsStrictlySortedBy join_cmp l) (sym (dedup_is same_join c.sort_unstable.new.self.items c.dedup.new.self.items c.dedup.ensures.filtered)) (IsStrictlySortedBy-dedup join_total join_ties c.sort_unstable.new.self.items c.sort_unstable.ensures.sorted)

pub returns-clause-same : goal.returns-clause-same
returns-clause-same c p =
    let is = dedup_is same_join c.sort_unstable.new.self.items c.dedup.new.self.items c.dedup.ensures.filtered in (
      λ h. Contains-permutation c.sort_unstable.new.self.items c.args.joins.now.items p (IsPermutation-sym c.args.joins.now.items c.sort_unstable.new.self.items c.sort_unstable.ensures.permutation) (Contains-from_dedup same_join c.sort_unstable.new.self.items p (subst (λ (l : List Join). Contains l p) is h)),
      λ h. subst (λ (l : List Join). Contains l p) (sym is) (Contains-dedup join_equiv join_exact c.sort_unstable.new.self.items p (Contains-permutation c.args.joins.now.items c.sort_unstable.new.self.items p c.sort_unstable.ensures.permutation h)),
    )
