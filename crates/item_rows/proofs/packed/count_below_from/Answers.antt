use Rattle.std.proofs.Common.{rules, of_calls}
use Rattle.std.specs.Prelude.{nat_lt}
use Rattle.std.proofs.lemmas.Fn.{always_returns_same}
use Rattle.shared_lists.proofs.Parted.{below_parted, count_parted, passed_below}
use Rattle.item_rows.proofs.packed.count_below_from.Goals as goal

pub returns : goal.returns
returns c =
    let point =
    c.count_while_from.ensures.partitioned (λ n. nat_lt n c.args.bound) (always_returns_same _ _ _ (λ a r f k. search (rules, of_calls))) (below_parted c.args.packed.now c.requires.row c.args.bound)
    (passed_below c.args.packed.now c.args.bound c.args.start c.requires.start c.requires.below) in
    count_parted c.args.packed.now c.args.bound c.count_while_from.result c.count_while_from.ensures.bound point
