use Rattle.std.proofs.Common.{List, Contains, sym, subst}
use Rattle.std.specs.List.Sorted.{IsStrictlySortedBy}
use Rattle.std.proofs.lemmas.List.Filters.{dedup_is}
use Rattle.std.proofs.lemmas.List.Kept.{IsStrictlySortedBy-dedup, Contains-from_dedup, Contains-dedup}
use Rattle.std.proofs.lemmas.List.Sorted.{Contains-permutation, IsPermutation-sym}
use Rattle.glades.specs.declared.heads.Head.{Head}
use Rattle.glades.specs.Heads.{head_cmp}
use Rattle.glades.proofs.HeadOrder.{heads_total, same_head, head_ties, head_equiv, head_exact}
use Rattle.glades.proofs.heads.sort.Goals as goal

pub returns-clause-sorted : goal.returns-clause-sorted
returns-clause-sorted c =
    subst (λ (l : List Head). IsStrictlySortedBy head_cmp l) (sym (dedup_is same_head c.sort.new.self.items c.dedup.new.self.items c.dedup.ensures.filtered)) (IsStrictlySortedBy-dedup heads_total head_ties c.sort.new.self.items c.in_ok-sort.ensures.sorted)

pub returns-clause-same : goal.returns-clause-same
returns-clause-same c head =
    let is = dedup_is same_head c.sort.new.self.items c.dedup.new.self.items c.dedup.ensures.filtered in (
      λ h. Contains-permutation c.sort.new.self.items c.args.heads.now.items head (IsPermutation-sym c.args.heads.now.items c.sort.new.self.items c.in_ok-sort.ensures.permutation) (Contains-from_dedup same_head c.sort.new.self.items head (subst (λ (l : List Head). Contains l head) is h)),
      λ h. subst (λ (l : List Head). Contains l head) (sym is) (Contains-dedup head_equiv head_exact c.sort.new.self.items head (Contains-permutation c.args.heads.now.items c.sort.new.self.items head c.in_ok-sort.ensures.permutation h)),
    )
