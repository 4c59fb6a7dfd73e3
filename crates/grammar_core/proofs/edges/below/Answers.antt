use Rattle.std.proofs.Common.{rules, of_calls, arith}
use Rattle.std.specs.Prelude.{nat_lt}
use Rattle.std.proofs.lemmas.Fn.{always_returns_same}
use Rattle.std.proofs.lemmas.Bool.{ltb-true, ltb-false}
use Rattle.grammar_core.proofs.Placed.{before_partitioned}
use Rattle.grammar_core.proofs.edges.below.Goals as goal

pub returns-else-parts_at : goal.returns-else-parts_at
returns-else-parts_at c =
    let point = c.partition_point.ensures.partitioned (λ p. nat_lt p c.args.bound) (always_returns_same _ _ _ (λ a r f k. search (rules, of_calls))) (before_partitioned c.args.places.now c.requires c.args.bound) in
    let bound = c.partition_point.ensures.bound in
    record {
      bound = bound;
      below = λ r lt. ltb-true _ _ (point.0 r 0 (omega arith) lt);
      above = λ r le here. ltb-false _ _ (point.1 r 0 le here);
    }
