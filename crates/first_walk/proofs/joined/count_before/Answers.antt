use Rattle.std.proofs.Common.{rules, of_calls, arith, sym, ◌∙◌, ap}
use Rattle.std.proofs.lemmas.Fn.{always_returns_same}
use Rattle.finite_sets.proofs.Lists.{got_at}
use Rattle.first_walk.specs.Joined.{before_item}
use Rattle.first_walk.proofs.JoinedOrder.{before_parted}
use Rattle.first_walk.proofs.joined.count_before.Goals as goal

pub returns : goal.returns
returns c =
    let point = c.partition_point.ensures.partitioned (before_item c.args.item) (always_returns_same _ _ _ (λ a r f k. search (rules, of_calls))) (before_parted c.args.joined.now c.requires c.args.item) in
    let bound = c.partition_point.ensures.bound in
    record {
      bound = bound;
      before = λ k j lt at. (let (below, e) = got_at c.args.joined.now k j j (sym at) in ap (before_item c.args.item) (sym e) ∙ point.0 k j (omega arith) lt);
      behind = λ k j le at. (let (below, e) = got_at c.args.joined.now k j j (sym at) in ap (before_item c.args.item) (sym e) ∙ point.1 k j le below);
    }
