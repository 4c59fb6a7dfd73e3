use Rattle.std.proofs.Common.{arith, ap, List, length}
use Rattle.horn_clauses.specs.Least.{Clause}
use Rattle.horn_clauses.proofs.ClauseLists.{clauses_long}
use Rattle.horn_clauses.proofs.clause_list.Clauses.len.Goals as goal

pub returns : goal.returns
returns c =
    let l = clauses_long c.self.inside.heads.items c.self.inside.bodies c.self.invariant in
    let v = ap (λ (l : List Clause). length l) c.self.view_is in
    let e = c.len.ensures in
    omega arith
