use Rattle.std.proofs.Common.{◌≡◌, length, rules, string_bytes}
use Rattle.std.proofs.lemmas.Result.{MatchResult-from_err}
use Rattle.value_text.proofs.Folds.{more_bytes_pool, more_bytes_stay, text_pool, text_put}
use Rattle.value_text.proofs.pool.Pool.text.Goals as goal

pub invariant_of-self-in_err-push : goal.invariant_of-self-in_err-push
invariant_of-self-in_err-push c = rw c.in_err-push.ensures.items (more_bytes_pool _ _ _ _ _ c.utf8.text c.in_ok-push_str.ensures.bytes c.self.invariant)

pub returns-in_err-push-clause-err : goal.returns-in_err-push-clause-err
returns-in_err-push-clause-err c =
    rw (← c.self.view_is)
    (MatchResult-from_err _ _ _ c.from_residual-in_err-push.ensures.0 (λ _. more_bytes_stay _ _ _ _ _ _ c.in_ok-push_str.ensures.bytes c.self.invariant c.in_err-push.ensures.items))

pub invariant_of-self-2 : goal.invariant_of-self-2
invariant_of-self-2 c =
    let from : c.len-from.result ≡ length (string_bytes c.self.inside.texts) = search rules in
    let to : c.len-to.result ≡ length (string_bytes c.push_str.new.self) = search rules in
    text_pool _ _ _ _ _ _ _ _ c.utf8.text c.in_ok-push_str.ensures.bytes from to c.self.invariant c.in_ok-push.ensures.items

pub returns-clause-ok : goal.returns-clause-ok
returns-clause-ok c =
    let from : c.len-from.result ≡ length (string_bytes c.self.inside.texts) = search rules in
    let to : c.len-to.result ≡ length (string_bytes c.push_str.new.self) = search rules in
    let place : c.len.result ≡ length c.self.inside.nodes.items = search rules in
    rw (← c.self.view_is) (text_put _ _ _ _ _ _ _ _ _ c.in_ok-push_str.ensures.bytes from to c.self.invariant place c.in_ok-push.ensures.items)
