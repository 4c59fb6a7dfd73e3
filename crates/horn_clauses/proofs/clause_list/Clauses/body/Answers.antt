use Rattle.std.proofs.Common.{arith, ◌∙◌, ap, List, length}
use Rattle.horn_clauses.specs.Least.{Clause, clause_at}
use Rattle.horn_clauses.proofs.ClauseLists.{clauses_long, body_is}
use Rattle.horn_clauses.proofs.clause_list.Clauses.body.Goals as goal

pub row-requires : goal.row-requires
row-requires c =
    let l = clauses_long c.self.inside.heads.items c.self.inside.bodies c.self.invariant in
    let v = ap (λ (l : List Clause). length l) c.self.view_is in
    let i = c.self.invariant in
    let r = c.requires in
    omega arith

pub returns : goal.returns
returns c = c.row.ensures ∙ (body_is c.self.inside.heads.items c.self.inside.bodies c.args.i c.self.invariant ∙ ap (λ (cs : List Clause). (clause_at cs c.args.i).body) c.self.view_is)
