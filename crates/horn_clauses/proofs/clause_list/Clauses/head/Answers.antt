use Rattle.std.proofs.Common.{arith, ◌∙◌, ap, sym, List, length}
use Rattle.std.proofs.lemmas.List.{get_or_default}
use Rattle.horn_clauses.specs.Least.{Clause, clause_at}
use Rattle.horn_clauses.proofs.ClauseLists.{clauses_long, head_is}
use Rattle.horn_clauses.proofs.clause_list.Clauses.head.Goals as goal

pub index-requires : goal.index-requires
index-requires c =
    let l = clauses_long c.self.inside.heads.items c.self.inside.bodies c.self.invariant in
    let v = ap (λ (l : List Clause). length l) c.self.view_is in
    let r = c.requires in
    omega arith

pub returns : goal.returns
returns c =
    let l = clauses_long c.self.inside.heads.items c.self.inside.bodies c.self.invariant in
    let v = ap (λ (l : List Clause). length l) c.self.view_is in
    let r = c.requires in
    c.index.ensures ∙ (get_or_default c.self.inside.heads.items c.args.i c.index.result.now 0 (omega arith)
    ∙ (sym (head_is c.self.inside.heads.items c.self.inside.bodies c.args.i c.self.invariant) ∙ ap (λ (cs : List Clause). (clause_at cs c.args.i).head) c.self.view_is))
