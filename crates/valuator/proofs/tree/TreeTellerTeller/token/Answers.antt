use Rattle.std.proofs.Common.{refl}
use Rattle.std.proofs.lemmas.Result.{MatchResult-from_err, IfOk-from_err}
use Rattle.valuator.proofs.Grown.{held_stays, held_more, ids_more, ids_kept, are_ids-grown}
use Rattle.valuator.proofs.tree.TreeTellerTeller.token.Goals as goal

pub returns-in_err-id-clause-err : goal.returns-in_err-id-clause-err
returns-in_err-id-clause-err c =
    rw (← c.self.view_is) (MatchResult-from_err _ _ _ c.from_residual.ensures.0 (λ _. held_stays _ _ _ _ c.put_leaf.ensures.grown c.self.invariant refl))

pub returns-in_err-push-clause-err : goal.returns-in_err-push-clause-err
returns-in_err-push-clause-err c =
    rw (← c.self.view_is) (MatchResult-from_err _ _ _ c.from_residual-in_err-push.ensures.0 (λ _. held_stays _ _ _ _ c.put_leaf.ensures.grown c.self.invariant c.in_err-push.ensures.items))

pub invariant_of-self-2 : goal.invariant_of-self-2
invariant_of-self-2 c = ids_more _ _ _ _ _ _ c.put_leaf.ensures.grown c.self.invariant c.in_ok-id.ensures.ok c.in_ok-push.ensures.items

pub returns-clause-ok : goal.returns-clause-ok
returns-clause-ok c = rw (← c.self.view_is) (held_more _ _ _ _ _ _ _ c.put_leaf.ensures.grown c.self.invariant c.in_ok-id.ensures.ok c.in_ok-push.ensures.items refl)

pub invariant_of-self : goal.invariant_of-self
invariant_of-self c = are_ids-grown _ _ _ c.put_leaf.ensures.grown c.self.invariant

pub invariant_of-self-in_err-push : goal.invariant_of-self-in_err-push
invariant_of-self-in_err-push c = ids_kept _ _ _ _ c.put_leaf.ensures.grown c.self.invariant c.in_err-push.ensures.items

pub returns-in_err-id-clause-ok : goal.returns-in_err-id-clause-ok
returns-in_err-id-clause-ok c = IfOk-from_err _ _ c.from_residual.ensures.0

pub returns-in_err-push-clause-ok : goal.returns-in_err-push-clause-ok
returns-in_err-push-clause-ok c = IfOk-from_err _ _ c.from_residual-in_err-push.ensures.0
