use Rattle.std.proofs.Common.{◌∙◌, ◌++◌, ◌∷◌, [], ap, List, ℕ}
use Rattle.std.proofs.lemmas.Result.{on_ok_weaker}
use Rattle.horn_clauses.specs.Least.{Clause, clauses_of}
use Rattle.horn_clauses.proofs.ClauseLists.{clauses_more}
use Rattle.horn_clauses.proofs.clause_list.Clauses.push.Goals as goal

pub returns-else-is_err-clause-ok : goal.returns-else-is_err-clause-ok
returns-else-is_err-clause-ok c =
    on_ok_weaker c.push-pushed.result (λ e. ap (λ (heads : List ℕ). clauses_of heads c.push-pushed.new.self) c.in_ok-push.ensures.items
    ∙ (ap (clauses_of (c.self.inside.heads.items ++ c.args.head ∷ [])) e ∙ (clauses_more c.self.inside.heads.items c.self.inside.bodies c.args.head c.args.body.now c.self.invariant
    ∙ ap (λ (cs : List Clause). cs ++ record { head = c.args.head; body = c.args.body.now } ∷ []) c.self.view_is))) c.push-pushed.ensures.ok
