use Rattle.std.proofs.Common.{arith, ap, subst, List, ℕ, length}
use Rattle.horn_clauses.specs.Rows.{HasAdded}
use Rattle.horn_clauses.specs.Gathered.{gathered}
use Rattle.horn_clauses.proofs.Gathering.{gathered_long, pair_added, within_more}
use Rattle.horn_clauses.proofs.gathered.Gathered.add.Goals as goal

pub invariant_of-self-2 : goal.invariant_of-self-2
invariant_of-self-2 c =
    let l = gathered_long c.self.inside.count c.self.inside.pairs.items in
    let v = ap (λ (l : List (List ℕ)). length l) c.self.view_is in
    let r = c.requires in
    within_more c.self.inside.count c.self.inside.pairs.items c.push.new.self.items c.args.x c.args.number (omega arith) c.in_ok-push.ensures.items c.self.invariant

pub returns-clause-ok : goal.returns-clause-ok
returns-clause-ok c =
    let l = gathered_long c.self.inside.count c.self.inside.pairs.items in
    let v = ap (λ (l : List (List ℕ)). length l) c.self.view_is in
    let r = c.requires in
    subst (λ old. HasAdded old (gathered c.self.inside.count c.push.new.self.items) c.args.x c.args.number) c.self.view_is
    (pair_added c.self.inside.count c.self.inside.pairs.items c.push.new.self.items c.args.x c.args.number (omega arith) c.in_ok-push.ensures.items)
