use Rattle.std.proofs.Common.{◌∙◌, ap, ℕ, ◌+◌}
use Rattle.std.proofs.lemmas.List.Sorted.{IsNonDecreasingBy-from_sort}
use Rattle.char_class.specs.Members.{has_code}
use Rattle.char_class.proofs.MembersLemmas.{same_codes}
use Rattle.char_class.proofs.FoldLemmas.{partitioned, in_order, others_are}
use Rattle.char_class.proofs.set.codes_of_char.Goals as goal

pub count_below-from-requires : goal.count_below-from-requires
count_below-from-requires c = partitioned c.fold_pairs-pairs.result.now c.fold_pairs-pairs.ensures.table c.args.c

pub count_below-to-requires : goal.count_below-to-requires
count_below-to-requires c = partitioned c.fold_pairs-pairs.result.now c.fold_pairs-pairs.ensures.table (c.args.c + 1)

pub seconds-requires-clause-order : goal.seconds-requires-clause-order
seconds-requires-clause-order c = in_order c.fold_pairs-pairs.result.now c.args.c c.count_below-from.result c.count_below-to.result c.count_below-from.ensures.bound c.count_below-to.ensures.bound c.count_below-from.ensures.split c.count_below-to.ensures.split

pub returns-clause-codes : goal.returns-clause-codes
returns-clause-codes c = λ x.
    same_codes c.in_ok-others.others.items c.sort.new.self.items x c.sort.ensures.permutation
    ∙ ap (λ codes. has_code codes x) c.in_ok-others.ensures
    ∙ others_are c.fold_pairs-pairs.result.now c.fold_pairs-pairs.ensures.table c.args.c c.count_below-from.result c.count_below-to.result
    (in_order c.fold_pairs-pairs.result.now c.args.c c.count_below-from.result c.count_below-to.result c.count_below-from.ensures.bound c.count_below-to.ensures.bound c.count_below-from.ensures.split c.count_below-to.ensures.split)
    c.count_below-to.ensures.bound c.count_below-from.ensures.split c.count_below-to.ensures.split x

pub returns-clause-sorted : goal.returns-clause-sorted
returns-clause-sorted c = λ i j le lt. IsNonDecreasingBy-from_sort (λ (n : ℕ). n) c.sort.new.self.items c.in_ok-sort.ensures.sorted i j 0 le lt
