use Rattle.std.proofs.Common.{List, Contains, sym, subst}
use Rattle.std.specs.List.Sorted.{IsStrictlySortedBy}
use Rattle.std.proofs.lemmas.List.Filters.{dedup_is}
use Rattle.std.proofs.lemmas.List.Kept.{IsStrictlySortedBy-dedup, Contains-from_dedup, Contains-dedup}
use Rattle.std.proofs.lemmas.List.Sorted.{Contains-permutation, IsPermutation-sym}
use Rattle.forest_parts.specs.declared.parts.Part.{Part}
use Rattle.forest_parts.specs.Parts.{part_cmp}
use Rattle.forest_parts.proofs.PartOrder.{part_total, same_key, key_ties, key_exact, same_part, part_ties, part_equiv, part_exact}
use Rattle.forest_parts.proofs.gather.sort.Goals as goal

pub returns-clause-sorted : goal.returns-clause-sorted
returns-clause-sorted c =
    subst (λ (l : List Part). IsStrictlySortedBy part_cmp l) (sym (dedup_is (same_part same_key key_ties key_exact) c.sort_unstable.new.self.items c.dedup.new.self.items c.dedup.ensures.filtered)) (IsStrictlySortedBy-dedup part_total (part_ties same_key key_ties key_exact) c.sort_unstable.new.self.items c.sort_unstable.ensures.sorted)

pub returns-clause-same : goal.returns-clause-same
returns-clause-same c p =
    let is = dedup_is (same_part same_key key_ties key_exact) c.sort_unstable.new.self.items c.dedup.new.self.items c.dedup.ensures.filtered in (
      λ h. Contains-permutation c.sort_unstable.new.self.items c.args.parts.now.items p (IsPermutation-sym c.args.parts.now.items c.sort_unstable.new.self.items c.sort_unstable.ensures.permutation) (Contains-from_dedup (same_part same_key key_ties key_exact) c.sort_unstable.new.self.items p (subst (λ (l : List Part). Contains l p) is h)),
      λ h. subst (λ (l : List Part). Contains l p) (sym is) (Contains-dedup (part_equiv same_key key_ties key_exact) (part_exact same_key key_ties key_exact) c.sort_unstable.new.self.items p (Contains-permutation c.args.parts.now.items c.sort_unstable.new.self.items p c.sort_unstable.ensures.permutation h)),
    )
