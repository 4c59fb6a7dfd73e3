use Rattle.std.proofs.Common.{arith, ◌↔◌, ◌<◌, ap, sym, subst, ℕ, List, length, Contains}
use Rattle.std.proofs.lemmas.Result.{on_ok_weaker}
use Rattle.jagged.specs.Rows.{row_at}
use Rattle.horn_clauses.specs.Gathered.{HasFrom}
use Rattle.horn_clauses.proofs.Gathering.{gathered_long, row_from, row_to}
use Rattle.horn_clauses.proofs.gathered.Linked.list.Goals as goal

pub collect-requires-clause-known : goal.collect-requires-clause-known
collect-requires-clause-known c =
    let l = gathered_long c.self.inside.count c.self.inside.pairs.items in
    let v = ap (λ (l : List (List ℕ)). length l) c.self.view_is in
    omega (arith, l, v, c.requires, c.self.invariant.0)

pub returns : goal.returns
returns c =
    let count = c.self.inside.count in
    let pairs = c.self.inside.pairs.items in
    let l = gathered_long count pairs in
    let v = ap (λ (l : List (List ℕ)). length l) c.self.view_is in
    let lt : c.args.x < count = omega (arith, l, v, c.requires) in
    on_ok_weaker c.collect.result
    (λ (each : (n : ℕ) → Contains c.collect.new.row.items n ↔ HasFrom c.deref.result.now c.args.x 0 n). λ n.
    let each' = subst (λ ps. Contains c.collect.new.row.items n ↔ HasFrom ps c.args.x 0 n) c.deref.ensures.value (each n) in (
      λ h. subst (λ (rows : List (List ℕ)). Contains (row_at rows c.args.x) n) c.self.view_is (row_to count pairs c.args.x n lt (each'.0 h)),
      λ h. each'.1 (row_from count pairs c.args.x n (subst (λ (rows : List (List ℕ)). Contains (row_at rows c.args.x) n) (sym c.self.view_is) h)).1,
    ))
    c.collect.ensures
