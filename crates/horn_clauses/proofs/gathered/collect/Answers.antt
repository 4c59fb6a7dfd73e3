use Rattle.std.proofs.Common.{arith, ◌≡◌, ◌↔◌, ℕ, Contains, subst}
use Rattle.horn_clauses.specs.Gathered.{HasFrom}
use Rattle.horn_clauses.proofs.Gathering.{collect_step}
use Rattle.horn_clauses.proofs.gathered.collect.Goals as goal

pub loop-next-preserved : goal.loop-next-preserved
loop-next-preserved c =
    collect_step c.args.pairs.now c.args.x c.loop-next.next c.index-next-in-loop-next.result.now c.args.links.now.last.items c.args.links.now.before.items c.loop-next.row.items c.push.new.self.items (omega (arith, c.loop-next-test.true)) c.requires.links
    c.index-next-in-loop-next.ensures c.in_ok-push.ensures.items c.loop-next.invariant

pub returns : goal.returns
returns c =
    let end : c.loop-next.next ≡ 0 = omega (arith, c.loop-next-test.false) in
    subst (λ k. (n : ℕ) → Contains c.loop-next.row.items n ↔ HasFrom c.args.pairs.now c.args.x k n) end c.loop-next.invariant.told
