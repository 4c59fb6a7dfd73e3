use Rattle.std.proofs.Common.{rules, of_calls, arith}
use Rattle.std.specs.Prelude.{nat_lt}
use Rattle.std.proofs.lemmas.Fn.{always_returns_same}
use Rattle.std.proofs.lemmas.Bool.{ltb-true, ltb-false}
use Rattle.forest_parts.specs.declared.parts.Part.{Part}
use Rattle.forest_parts.specs.Parts.{no_part}
use Rattle.forest_parts.proofs.InOrder.{below_parted}
use Rattle.first_walk.proofs.Orders.{symbols_rise}
use Rattle.first_walk.proofs.place.count_before.Goals as goal

pub returns : goal.returns
returns c =
    let parted = below_parted (λ (p : Part). p.symbol) c.args.parts.now (symbols_rise c.args.parts.now c.requires.sorted c.requires.ends) c.args.symbol in
    let point = c.partition_point.ensures.partitioned (λ (p : Part). nat_lt p.symbol c.args.symbol) (always_returns_same _ _ _ (λ a r f k. search (rules, of_calls))) parted in
    let bound = c.partition_point.ensures.bound in (
      λ k lt. ltb-true _ _ (point.0 k no_part (omega arith) lt),
      λ k le lt. ltb-false _ _ (point.1 k no_part le lt),
    )
