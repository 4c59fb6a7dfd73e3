use Rattle.std.proofs.Common.{arith}
use Rattle.item_rows.proofs.Ordered.{start_first, span_exact}
use Rattle.item_rows.proofs.dotted.find_span.Goals as goal

pub returns : goal.returns
returns c = record {
  order = start_first c.args.flat.now c.args.rules.now c.requires.order c.args.symbol (omega arith) c.below-start.result c.below-end.result c.below-start.ensures.bound c.below-end.ensures.bound c.below-start.ensures.below c.below-start.ensures.above
      c.below-end.ensures.below c.below-end.ensures.above;
  exact = span_exact c.args.flat.now c.args.rules.now c.requires.order c.args.symbol (omega arith) c.below-start.result c.below-end.result c.below-start.ensures.bound c.below-end.ensures.bound c.below-start.ensures.below c.below-start.ensures.above
      c.below-end.ensures.below c.below-end.ensures.above;
}
