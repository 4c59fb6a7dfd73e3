use Rattle.std.proofs.Common.{rules, of_calls}
use Rattle.std.specs.Prelude.{nat_lt}
use Rattle.std.proofs.lemmas.Fn.{always_returns_same}
use Rattle.shared_lists.proofs.Parted.{below_parted, count_parted}
use Rattle.shared_lists.proofs.counts.count.Goals as goal

pub returns : goal.returns
returns c =
    let point = c.count_while.ensures.partitioned (λ n. nat_lt n c.args.bound) (always_returns_same _ _ _ (λ a r f k. search (rules, of_calls))) (below_parted c.args.list.now c.requires c.args.bound) in
    let is = count_parted c.args.list.now c.args.bound c.count_while.result c.count_while.ensures.bound point in
    record { bound = is.within; below = is.below; above = is.above }
