use Rattle.std.proofs.Common.{refl, ◌∷◌, []}
use Rattle.std.proofs.lemmas.Result.{MatchResult-from_err, IfOk-from_err}
use Rattle.grammar_model.specs.Values.{made_by_option}
use Rattle.valuator.specs.Told.{action_in}
use Rattle.valuator.proofs.Grown.{grown_put, grown_through, grown_kept, stands_put, held_stays, held_more, ids_more, ids_kept, ids_one, are_ids-grown}
use Rattle.valuator.proofs.array.ArrayTellerTeller.token.Goals as goal

pub returns-in_err-id-clause-err : goal.returns-in_err-id-clause-err
returns-in_err-id-clause-err c =
    rw (← c.self.view_is)
    (MatchResult-from_err _ _ _ c.from_residual-in_err-id.ensures.0
    (λ _. held_stays _ _ _ _ (grown_through _ _ _ (grown_put _ _ _ _ c.in_ok-value.ensures.ok) c.made_or.ensures.grown) c.self.invariant refl))

pub returns-in_err-push-clause-err : goal.returns-in_err-push-clause-err
returns-in_err-push-clause-err c =
    rw (← c.self.view_is)
    (MatchResult-from_err _ _ _ c.from_residual-in_err-push.ensures.0
    (λ _. held_stays _ _ _ _ (grown_through _ _ _ (grown_put _ _ _ _ c.in_ok-value.ensures.ok) c.made_or.ensures.grown) c.self.invariant c.in_err-push.ensures.items))

pub invariant_of-self-2 : goal.invariant_of-self-2
invariant_of-self-2 c =
    ids_more _ _ _ _ _ _ (grown_through _ _ _ (grown_put _ _ _ _ c.in_ok-value.ensures.ok) c.made_or.ensures.grown) c.self.invariant c.in_ok-id.ensures.ok c.in_ok-push.ensures.items

pub returns-clause-ok : goal.returns-clause-ok
returns-clause-ok c =
    rw (← c.self.view_is)
    (held_more _ _ _ _ _ _ _ (grown_through _ _ _ (grown_put _ _ _ _ c.in_ok-value.ensures.ok) c.made_or.ensures.grown) c.self.invariant c.in_ok-id.ensures.ok c.in_ok-push.ensures.items
    (let same = (stands_put _ _ _ _ c.in_ok-value.ensures.ok).is in
    λ i. made_by_option (action_in c.args.action) (same i)
    (record { name = c.args.name.now; start = c.args.start; length = c.args.length; g1start = c.args.g1start; g1length = 1; children = same i ∷ [] })))

pub made_or-requires-clause-otherwise : goal.made_or-requires-clause-otherwise
made_or-requires-clause-otherwise c = (stands_put _ _ _ _ c.in_ok-value.ensures.ok).inside

pub made_or-requires-clause-children : goal.made_or-requires-clause-children
made_or-requires-clause-children c = ids_one _ _ _ (stands_put _ _ _ _ c.in_ok-value.ensures.ok)

pub invariant_of-self : goal.invariant_of-self
invariant_of-self c = ids_kept _ _ _ _ (grown_kept _ _ c.in_err-value.ensures.err) c.self.invariant refl

pub invariant_of-self-in_err-id : goal.invariant_of-self-in_err-id
invariant_of-self-in_err-id c = are_ids-grown _ _ _ (grown_through _ _ _ (grown_put _ _ _ _ c.in_ok-value.ensures.ok) c.made_or.ensures.grown) c.self.invariant

pub invariant_of-self-in_err-push : goal.invariant_of-self-in_err-push
invariant_of-self-in_err-push c = ids_kept _ _ _ _ (grown_through _ _ _ (grown_put _ _ _ _ c.in_ok-value.ensures.ok) c.made_or.ensures.grown) c.self.invariant c.in_err-push.ensures.items

pub returns-in_err-value-clause-ok : goal.returns-in_err-value-clause-ok
returns-in_err-value-clause-ok c = IfOk-from_err _ _ c.from_residual.ensures.0

pub returns-in_err-value-clause-err : goal.returns-in_err-value-clause-err
returns-in_err-value-clause-err c =
    rw (← c.self.view_is) (MatchResult-from_err _ _ _ c.from_residual.ensures.0 (λ _. held_stays _ _ _ _ (grown_kept _ _ c.in_err-value.ensures.err) c.self.invariant refl))

pub returns-in_err-id-clause-ok : goal.returns-in_err-id-clause-ok
returns-in_err-id-clause-ok c = IfOk-from_err _ _ c.from_residual-in_err-id.ensures.0

pub returns-in_err-push-clause-ok : goal.returns-in_err-push-clause-ok
returns-in_err-push-clause-ok c = IfOk-from_err _ _ c.from_residual-in_err-push.ensures.0
