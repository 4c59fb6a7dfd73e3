use Rattle.std.proofs.Common.{ℕ, sym, subst, List, Contains, arith}
use Rattle.kernels.specs.Slots.{Rises}
use Rattle.shared_lists.proofs.Parted.{part_order, part_exact, part_rises}
use Rattle.item_rows.proofs.packed.within_span.Goals as goal

pub count_below_from-end-requires-clause-below : goal.count_below_from-end-requires-clause-below
count_below_from-end-requires-clause-below c k lt =
    let below = c.count_below-start.ensures.below k lt in let a = c.first_of-low.ensures in let b = c.first_of-high.ensures in let o = c.requires.order in omega arith

pub between-requires-clause-order : goal.between-requires-clause-order
between-requires-clause-order c =
    part_order c.args.packed.now c.requires.row c.first_of-low.result c.first_of-high.result c.count_below-start.result c.count_below_from-end.result (let a = c.first_of-low.ensures in let b = c.first_of-high.ensures in let o = c.requires.order in omega arith)
    c.count_below-start.ensures.bound c.count_below_from-end.ensures.within c.count_below-start.ensures.below c.count_below-start.ensures.above c.count_below_from-end.ensures.below c.count_below_from-end.ensures.above

pub returns-clause-rises : goal.returns-clause-rises
returns-clause-rises c =
    subst Rises (sym c.between.ensures)
    (part_rises c.args.packed.now c.requires.row c.count_below-start.result c.count_below_from-end.result
    (part_order c.args.packed.now c.requires.row c.first_of-low.result c.first_of-high.result c.count_below-start.result c.count_below_from-end.result (let a = c.first_of-low.ensures in let b = c.first_of-high.ensures in let o = c.requires.order in omega arith)
    c.count_below-start.ensures.bound c.count_below_from-end.ensures.within c.count_below-start.ensures.below c.count_below-start.ensures.above c.count_below_from-end.ensures.below c.count_below_from-end.ensures.above)
    c.count_below_from-end.ensures.within)

pub returns-clause-exact : goal.returns-clause-exact
returns-clause-exact c n =
    let part =
    part_exact c.args.packed.now c.requires.row c.first_of-low.result c.first_of-high.result c.count_below-start.result c.count_below_from-end.result (let a = c.first_of-low.ensures in let b = c.first_of-high.ensures in let o = c.requires.order in omega arith)
    c.count_below-start.ensures.bound c.count_below_from-end.ensures.within c.count_below-start.ensures.below c.count_below-start.ensures.above c.count_below_from-end.ensures.below c.count_below_from-end.ensures.above n in
    let a = c.first_of-low.ensures in
    let b = c.first_of-high.ensures in (
      λ h. (let (in_row, low, high) = part.0 (subst (λ (l : List ℕ). Contains l n) c.between.ensures h) in (in_row, omega arith, omega arith)),
      λ (in_row, from, to). subst (λ (l : List ℕ). Contains l n) (sym c.between.ensures) (part.1 (in_row, omega arith, omega arith)),
    )
