use Rattle.std.proofs.Common.{arith}
use Rattle.horn_clauses.proofs.Gathering.{links_step}
use Rattle.horn_clauses.proofs.gathered.links_of.Goals as goal

pub loop-place-preserved : goal.loop-place-preserved
loop-place-preserved c =
    links_step c.args.pairs.now c.loop-place.place c.args.count c.index.result.now c.loop-place.last.items c.loop-place.before.items c.push.new.self.items c.requires (omega (arith, c.loop-place-test.true)) c.loop-place.invariant.0
    c.index.ensures c.in_ok-push.ensures.items c.loop-place.invariant.1
