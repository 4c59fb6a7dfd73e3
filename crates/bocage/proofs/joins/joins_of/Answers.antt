use Rattle.std.proofs.Common.{◌≡◌, ◌↔◌, List, Contains, sym, subst}
use Rattle.std.specs.List.Sorted.{IsStrictlySortedBy}
use Rattle.forest_parts.proofs.InOrder.{sorted_between}
use Rattle.bocage.specs.declared.joins.Join.{Join}
use Rattle.bocage.specs.Joins.{join_cmp, predecessor_of_join}
use Rattle.bocage.proofs.JoinOrder.{item_between}
use Rattle.bocage.proofs.joins.joins_of.Goals as goal

pub returns-clause-sorted : goal.returns-clause-sorted
returns-clause-sorted c = subst (λ (l : List Join). IsStrictlySortedBy join_cmp l) (sym c.joins_between.ensures) (sorted_between join_cmp c.count_before-first.result c.end_of_item-past.result c.args.joins.now c.requires)

pub returns-clause-exact : goal.returns-clause-exact
returns-clause-exact c j =
    subst (λ (l : List Join). Contains l j ↔ (Contains c.args.joins.now j × (predecessor_of_join j ≡ c.args.predecessor))) (sym c.joins_between.ensures)
    (item_between c.args.joins.now c.requires c.args.predecessor c.count_before-first.result c.end_of_item-past.result c.end_of_item-past.ensures.order c.end_of_item-past.ensures.bound c.count_before-first.ensures.behind c.count_before-first.ensures.before c.end_of_item-past.ensures.same c.end_of_item-past.ensures.other j)
