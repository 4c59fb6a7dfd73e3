use Rattle.std.proofs.Common.{◌↔◌, ◌-◌, ◌<◌, ◌≤◌, ◌∙◌, sym, ap, subst, ℕ, List, length, take, drop, Contains}
use Rattle.jagged.specs.Rows.{row_at}
use Rattle.kernels.specs.Slots.{Rises}
use Rattle.shared_lists.specs.Counted.{AreCounts}
use Rattle.shared_lists.proofs.Parted.{part_order, part_rises, part_exact}
use Rattle.shared_lists.proofs.lists.SharedLists.part.Goals as goal

pub row-list-requires : goal.row-list-requires
row-list-requires c = subst (λ (l : List (List ℕ)). c.args.k < length l) (sym c.self.view_is) c.requires.there

pub count_by-first-requires-clause-row : goal.count_by-first-requires-clause-row
count_by-first-requires-clause-row c = subst Rises (sym c.row-list.ensures) (c.self.invariant.rise c.args.k (subst (λ (l : List (List ℕ)). c.args.k < length l) (sym c.self.view_is) c.requires.there))

pub count_by-first-requires-clause-counts : goal.count_by-first-requires-clause-counts
count_by-first-requires-clause-counts c =
    subst (λ (l : List ℕ). AreCounts l c.counts_of-counts.result.now) (sym c.row-list.ensures)
    (subst (AreCounts (row_at c.self.inside.lists c.args.k)) (sym c.counts_of-counts.ensures) (c.self.invariant.are c.args.k))

pub count_by-last-requires-clause-row : goal.count_by-last-requires-clause-row
count_by-last-requires-clause-row c = subst Rises (sym c.row-list.ensures) (c.self.invariant.rise c.args.k (subst (λ (l : List (List ℕ)). c.args.k < length l) (sym c.self.view_is) c.requires.there))

pub count_by-last-requires-clause-counts : goal.count_by-last-requires-clause-counts
count_by-last-requires-clause-counts c =
    subst (λ (l : List ℕ). AreCounts l c.counts_of-counts.result.now) (sym c.row-list.ensures)
    (subst (AreCounts (row_at c.self.inside.lists c.args.k)) (sym c.counts_of-counts.ensures) (c.self.invariant.are c.args.k))

pub between-requires-clause-order : goal.between-requires-clause-order
between-requires-clause-order c =
    part_order c.row-list.result.now (subst Rises (sym c.row-list.ensures) (c.self.invariant.rise c.args.k (subst (λ (l : List (List ℕ)). c.args.k < length l) (sym c.self.view_is) c.requires.there)))
    c.args.start c.args.end c.count_by-first.result c.count_by-last.result c.requires.order c.count_by-first.ensures.bound c.count_by-last.ensures.bound
    c.count_by-first.ensures.below c.count_by-first.ensures.above c.count_by-last.ensures.below c.count_by-last.ensures.above

pub returns-clause-rises : goal.returns-clause-rises
returns-clause-rises c =
    let rises = subst Rises (sym c.row-list.ensures) (c.self.invariant.rise c.args.k (subst (λ (l : List (List ℕ)). c.args.k < length l) (sym c.self.view_is) c.requires.there)) in
    subst Rises (sym c.between.ensures)
    (part_rises c.row-list.result.now rises c.count_by-first.result c.count_by-last.result
    (part_order c.row-list.result.now rises c.args.start c.args.end c.count_by-first.result c.count_by-last.result c.requires.order c.count_by-first.ensures.bound c.count_by-last.ensures.bound
    c.count_by-first.ensures.below c.count_by-first.ensures.above c.count_by-last.ensures.below c.count_by-last.ensures.above)
    c.count_by-last.ensures.bound)

pub returns-clause-exact : goal.returns-clause-exact
returns-clause-exact c n =
    let rises = subst Rises (sym c.row-list.ensures) (c.self.invariant.rise c.args.k (subst (λ (l : List (List ℕ)). c.args.k < length l) (sym c.self.view_is) c.requires.there)) in
    let exact =
    part_exact c.row-list.result.now rises c.args.start c.args.end c.count_by-first.result c.count_by-last.result c.requires.order c.count_by-first.ensures.bound c.count_by-last.ensures.bound
    c.count_by-first.ensures.below c.count_by-first.ensures.above c.count_by-last.ensures.below c.count_by-last.ensures.above n in
    subst (λ (l : List ℕ). Contains l n ↔ (Contains (row_at c.args.self.now c.args.k) n × (c.args.start ≤ n) × (n < c.args.end))) (sym c.between.ensures)
    (subst (λ (l : List ℕ). Contains (take (c.count_by-last.result - c.count_by-first.result) (drop c.count_by-first.result c.row-list.result.now)) n ↔ (Contains l n × (c.args.start ≤ n) × (n < c.args.end)))
    (c.row-list.ensures ∙ ap (λ (l : List (List ℕ)). row_at l c.args.k) c.self.view_is) exact)
