use Rattle.std.proofs.Common.{rules, of_calls, arith}
use Rattle.std.specs.Prelude.{nat_lt}
use Rattle.std.proofs.lemmas.Fn.{always_returns_same}
use Rattle.std.proofs.lemmas.Bool.{ltb-true, ltb-false}
use Rattle.item_rows.specs.Order.{symbol_or_end}
use Rattle.item_rows.proofs.Ordered.{below_parted}
use Rattle.item_rows.proofs.order.below.Goals as goal

pub returns : goal.returns
returns c =
    let point = c.partition_point.ensures.partitioned (λ w. nat_lt (symbol_or_end c.args.flat.now w) c.args.symbol) (always_returns_same _ _ _ (λ a r f k. search (rules, of_calls)))
    (below_parted c.args.flat.now c.args.row.now c.requires c.args.symbol) in
    record {
      bound = c.partition_point.ensures.bound;
      below = λ k d lt. ltb-true _ _ (point.0 k d (omega arith) lt);
      above = λ k d le lt. ltb-false _ _ (point.1 k d le lt);
    }
