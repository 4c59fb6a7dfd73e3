use Rattle.std.proofs.Common.{◌≡◌, length, rules}
use Rattle.std.proofs.lemmas.Result.{MatchResult-from_err}
use Rattle.value_text.proofs.Folds.{more_items_stay, list_pool, list_put}
use Rattle.value_text.proofs.pool.Pool.list.Goals as goal

pub returns-in_err-push-clause-err : goal.returns-in_err-push-clause-err
returns-in_err-push-clause-err c =
    rw (← c.self.view_is)
    (MatchResult-from_err _ _ _ c.from_residual-in_err-push.ensures.0 (λ _. more_items_stay _ _ _ _ _ _ c.in_ok-extend_from_slice.ensures.items c.self.invariant c.in_err-push.ensures.items))

pub invariant_of-self-2 : goal.invariant_of-self-2
invariant_of-self-2 c =
    let from : c.len-from.result ≡ length c.self.inside.items.items = search rules in
    let to : c.len-to.result ≡ length c.extend_from_slice.new.self.items = search rules in
    list_pool _ _ _ _ _ _ _ _ (rw c.self.view_is c.requires) c.in_ok-extend_from_slice.ensures.items from to c.self.invariant c.in_ok-push.ensures.items

pub returns-clause-ok : goal.returns-clause-ok
returns-clause-ok c =
    let from : c.len-from.result ≡ length c.self.inside.items.items = search rules in
    let to : c.len-to.result ≡ length c.extend_from_slice.new.self.items = search rules in
    let place : c.len.result ≡ length c.self.inside.nodes.items = search rules in
    rw (← c.self.view_is) (list_put _ _ _ _ _ _ _ _ _ c.in_ok-extend_from_slice.ensures.items from to c.self.invariant place c.in_ok-push.ensures.items)
