use Rattle.std.proofs.Common.{◌≡◌, length, rules, refl}
use Rattle.value_text.proofs.Folds.{is_put, parts_same}
use Rattle.value_text.proofs.pool.Pool.num.Goals as goal

pub returns-clause-ok : goal.returns-clause-ok
returns-clause-ok c =
    let place : c.len.result ≡ length c.self.inside.nodes.items = search rules in
    rw (← c.self.view_is) (is_put _ _ _ _ (parts_same _) (parts_same _) _ _ _ _ _ c.self.invariant place refl c.in_ok-push.ensures.items)
