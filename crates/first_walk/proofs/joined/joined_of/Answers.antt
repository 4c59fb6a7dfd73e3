use Rattle.std.proofs.Common.{◌≡◌, ◌↔◌, List, Contains, sym, subst}
use Rattle.std.specs.List.Sorted.{IsStrictlySortedBy}
use Rattle.forest_parts.proofs.InOrder.{sorted_between}
use Rattle.first_walk.specs.declared.joined.Joined.{Joined}
use Rattle.first_walk.specs.Joined.{joined_cmp, item_of_joined}
use Rattle.first_walk.proofs.JoinedOrder.{item_between}
use Rattle.first_walk.proofs.joined.joined_of.Goals as goal

pub returns-clause-sorted : goal.returns-clause-sorted
returns-clause-sorted c = subst (λ (l : List Joined). IsStrictlySortedBy joined_cmp l) (sym c.joined_between.ensures) (sorted_between joined_cmp c.count_before-first.result c.end_of_item-end.result c.args.joined.now c.requires)

pub returns-clause-exact : goal.returns-clause-exact
returns-clause-exact c j =
    subst (λ (l : List Joined). Contains l j ↔ (Contains c.args.joined.now j × (item_of_joined j ≡ c.args.item))) (sym c.joined_between.ensures)
    (item_between c.args.joined.now c.requires c.args.item c.count_before-first.result c.end_of_item-end.result c.end_of_item-end.ensures.order c.end_of_item-end.ensures.bound c.count_before-first.ensures.behind c.count_before-first.ensures.before c.end_of_item-end.ensures.same c.end_of_item-end.ensures.other j)
