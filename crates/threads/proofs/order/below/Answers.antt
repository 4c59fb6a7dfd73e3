use Rattle.std.proofs.Common.{rules, of_calls, arith}
use Rattle.std.specs.Prelude.{nat_lt}
use Rattle.std.proofs.lemmas.Fn.{always_returns_same}
use Rattle.std.proofs.lemmas.Bool.{ltb-true, ltb-false}
use Rattle.std.proofs.lemmas.List.Sorted.{IsPartitionedBy-ltb}
use Rattle.threads.specs.Order.{awaited}
use Rattle.threads.proofs.order.below.Goals as goal

pub returns : goal.returns
returns c =
    let point = c.partition_point.ensures.partitioned (λ w. nat_lt (awaited c.args.flat.now w) c.args.symbol) (always_returns_same _ _ _ (λ a r f k. search (rules, of_calls)))
    (IsPartitionedBy-ltb (awaited c.args.flat.now) c.args.ordered.now c.args.symbol c.requires) in
    record {
      bound = c.partition_point.ensures.bound;
      below = λ k d lt. ltb-true _ _ (point.0 k d (omega arith) lt);
      above = λ k d le lt. ltb-false _ _ (point.1 k d le lt);
    }
