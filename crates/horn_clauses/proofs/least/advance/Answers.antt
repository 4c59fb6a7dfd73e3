use Rattle.std.proofs.Common.{arith, ◌≡◌, ap, sym, subst, ◌≤◌, length, Contains, slice_index}
use Rattle.std.proofs.lemmas.Result.{on_ok_weaker}
use Rattle.horn_clauses.specs.Least.{clause_at, Adds}
use Rattle.horn_clauses.proofs.Search.{stopped, ended}
use Rattle.horn_clauses.proofs.least.advance.Goals as goal

pub returns-then-place-body : goal.returns-then-place-body
returns-then-place-body c =
    let b : c.body-body.result.now ≡ (clause_at c.args.clauses.now c.args.i).body = c.body-body.ensures in
    stopped c.args.clauses.now c.args.found.now c.args.places.now c.requires.search c.args.i c.open_place-place.result c.requires.number
    (subst (λ l. c.open_place-place.result ≤ length l) b c.open_place-place.ensures.within)
    (λ m le lt. subst (λ l. Contains c.args.found.now (slice_index l m)) b (c.open_place-place.ensures.passed m le lt))
    (let n : length c.body-body.result.now ≡ length (clause_at c.args.clauses.now c.args.i).body = ap length b in omega (arith, c.if-place-body.true))
    (λ h. c.open_place-place.ensures.fresh (omega (arith, c.if-place-body.true)) (subst (λ l. Contains c.args.found.now (slice_index l c.open_place-place.result)) (sym b) h))

pub returns : goal.returns
returns c =
    let b : c.body-body.result.now ≡ (clause_at c.args.clauses.now c.args.i).body = c.body-body.ensures in
    on_ok_weaker c.add.result (λ adds. ended c.args.clauses.now c.args.found.now c.args.places.now c.requires.search c.args.i c.open_place-place.result c.requires.number
    (subst (λ l. c.open_place-place.result ≤ length l) b c.open_place-place.ensures.within)
    (λ m le lt. subst (λ l. Contains c.args.found.now (slice_index l m)) b (c.open_place-place.ensures.passed m le lt))
    c.add.new.self
    (let n : length c.body-body.result.now ≡ length (clause_at c.args.clauses.now c.args.i).body = ap length b in omega (arith, c.if-place-body.false, c.open_place-place.ensures.within))
    (subst (λ x. Adds c.args.found.now c.add.new.self x) c.head.ensures adds)) c.add.ensures.ok
