use Rattle.std.proofs.Common.{◌∷◌, [], ◌∙◌, ap, sym, subst, ℕ, List, length, length-append, arith}
use Rattle.shared_lists.specs.Counted.{AreCounts}
use Rattle.shared_lists.proofs.Parted.{count_small}
use Rattle.shared_lists.proofs.Counting.{no_counts, counts_more}
use Rattle.shared_lists.proofs.counts.list_counts.Goals as goal

pub loop-bound-init : goal.loop-bound-init
loop-bound-init c = record {
  within = omega arith;
  below = λ k lt. absurd (omega arith);
  counts = subst (AreCounts c.args.list.now) (sym c.clear.ensures.items) (no_counts c.args.list.now);
  long = ap (λ (l : List ℕ). length l) c.clear.ensures.items;
}

pub overflow_cast-start : goal.overflow_cast-start
overflow_cast-start c =
    let small = count_small c.args.list.now c.requires c.loop-bound.bound c.count_from-start.result c.count_from-start.ensures.within c.count_from-start.ensures.below in
    let test = c.loop-bound-test.true in
    omega arith

pub loop-bound-preserved : goal.loop-bound-preserved
loop-bound-preserved c =
    let grown = ap (λ (l : List ℕ). length l) c.in_ok-push.ensures.items ∙ length-append c.loop-bound.counts.items (c.count_from-start.result ∷ []) in
    let long = c.loop-bound.invariant.long in
    record {
      within = c.count_from-start.ensures.within;
      below = λ k lt. (let b = c.count_from-start.ensures.below k lt in omega arith);
      counts = counts_more c.args.list.now c.loop-bound.counts.items c.push.new.self.items c.loop-bound.bound c.count_from-start.result c.loop-bound.invariant.counts long
          c.count_from-start.ensures c.in_ok-push.ensures.items;
      long = omega (arith, grown, long);
    }
