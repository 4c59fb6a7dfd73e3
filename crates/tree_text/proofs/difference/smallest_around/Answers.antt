use Rattle.std.proofs.Common.{◌+◌, ◌-◌, ◌≡◌, ◌<◌, ◌≤◌, arith}
use Rattle.tree_text.specs.Differences.{depth_at}
use Rattle.tree_text.proofs.Differences.{limit_kept, limit_lower, none_deep, none_not, smallest_at}
use Rattle.tree_text.proofs.difference.smallest_around.Goals as goal

pub returns-then-is_in_both-2 : goal.returns-then-is_in_both-2
returns-then-is_in_both-2 c =
    let less : depth_at c.args.one.now (c.loop-left.left - 1) < c.loop-left.limit = omega (arith, c.depth_of-depth.ensures, c.if-depth-limit.true) in
    smallest_at _ _ _ _ c.loop-left.left _ (omega (arith, c.loop-left-test.true)) c.requires.differ c.loop-left.invariant.there c.loop-left.invariant.limits less c.loop-left.invariant.none c.if-is_in_both-2.ensures

pub loop-left-preserved-then-depth-limit : goal.loop-left-preserved-then-depth-limit
loop-left-preserved-then-depth-limit c =
    let more : c.loop-left.left ≡ (c.loop-left.left - 1) + 1 = omega (arith, c.loop-left-test.true) in
    let less : depth_at c.args.one.now (c.loop-left.left - 1) < c.loop-left.limit = omega (arith, c.depth_of-depth.ensures, c.if-depth-limit.true) in
    record {
      there = omega (arith, c.loop-left.invariant.there);
      limits = rw c.depth_of-depth.ensures (limit_lower _ _ _ _ c.loop-left.left _ more c.loop-left.invariant.there c.loop-left.invariant.limits less);
      none = none_not _ _ _ _ c.loop-left.left more c.if-is_in_both-2.ensures c.loop-left.invariant.none;
    }

pub loop-left-preserved : goal.loop-left-preserved
loop-left-preserved c =
    let more : c.loop-left.left ≡ (c.loop-left.left - 1) + 1 = omega (arith, c.loop-left-test.true) in
    let deep : c.loop-left.limit ≤ depth_at c.args.one.now (c.loop-left.left - 1) = omega (arith, c.depth_of-depth.ensures, c.if-depth-limit.false) in
    record {
      there = omega (arith, c.loop-left.invariant.there);
      limits = limit_kept _ _ _ _ c.loop-left.left _ more c.loop-left.invariant.limits deep;
      none = none_deep _ _ _ _ c.loop-left.left _ more c.requires.differ c.loop-left.invariant.there c.loop-left.invariant.limits deep c.loop-left.invariant.none;
    }
